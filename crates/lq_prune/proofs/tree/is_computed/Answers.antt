use Rattle.std.proofs.Common.{◌∙◌, ap}
use Rattle.std.specs.Prelude.{is_some}
use Rattle.lq_ast.proofs.ComputedFields.{is_some-computed_of}
use Rattle.lq_prune.proofs.tree.is_computed.Goals as goal

pub returns : goal.returns
returns c = c.is_some.ensures ∙ ap is_some c.of.ensures ∙ is_some-computed_of c.args.name.now
