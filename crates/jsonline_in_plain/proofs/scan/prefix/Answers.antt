use Rattle.jsonline_in.proofs.Cuts.{prefix_cut}
use Rattle.jsonline_in_plain.proofs.scan.prefix.Goals as goal

pub split_at-requires : goal.split_at-requires
split_at-requires c = prefix_cut c.args.text.now c.requires.0 c.args.rest.now c.requires.1 c.utf8.rest
