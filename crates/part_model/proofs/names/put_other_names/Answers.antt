use Rattle.std.proofs.Common.{ℕ, List, Bor, map}
use Rattle.part_model.proofs.EndLaws.{put-same}
use Rattle.part_model.proofs.names.put_other_names.Goals as goal

abbrev now_of : Bor (List ℕ) → List ℕ
now_of t = t.now

pub returns-then-have_same_names : goal.returns-then-have_same_names
returns-then-have_same_names c =
    put-same (map now_of c.args.names.now.keys) c.args.fields.now c.args.last.now (c.have_same_names.ensures
    c.if-have_same_names.true) c.requires
