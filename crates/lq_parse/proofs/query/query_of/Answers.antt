use Rattle.lq_ast.specs.Question.{question}
use Rattle.lq_parse.proofs.Stops.{read_found, stop_found}
use Rattle.lq_parse.proofs.query.query_of.Goals as goal

pub returns-in-Ok : goal.returns-in-Ok
returns-in-Ok c some =
    read_found c.args.text.now c.args.tokens.now (question c.in-Ok.query) c.requires c.in-Ok.ensures

pub returns-in-Err : goal.returns-in-Err
returns-in-Err c some =
    stop_found c.args.text.now c.args.tokens.now c.fault_of.result c.requires c.fault_of.ensures some
