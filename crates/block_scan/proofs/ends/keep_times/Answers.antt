use Rattle.std.proofs.Common.{◌∙◌, rules, true, IsTrue}
use Rattle.lq_ast.specs.Holds.{is_within}
use Rattle.block_scan.proofs.Staying.{all_stay, kept-constant}
use Rattle.block_scan.proofs.ends.keep_times.Goals as goal

pub returns-else-not-have_all : goal.returns-else-not-have_all
returns-else-not-have_all c =
    let all : IsTrue c.have_all.result = search rules in
    all_stay c.args.marks.now
    ∙ kept-constant (is_within c.args.ends.now.low c.args.ends.now.high) true c.args.times.now c.args.marks.now
    (c.have_all.ensures all) c.requires.long
