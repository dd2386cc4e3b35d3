use Rattle.std.proofs.Common.{rules}
use Rattle.parts_list.specs.ReadAgain.{few_entries}
use Rattle.parts_list.proofs.write.spell_list.Goals as goal

pub returns : goal.returns
returns c = let is = c.in_ok-put_body.ensures (few_entries c.args.list.now c.requires) in search rules
