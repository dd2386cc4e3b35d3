use Rattle.std.proofs.Common.{◌≡◌, ◌∷◌, true, ap}
use Rattle.std.specs.Prelude.{Some, None, if◌then◌else◌}
use Rattle.parts_list.specs.Format.{body_of}
use Rattle.parts_list.specs.Listing.{is_list_of}
use Rattle.parts_list.proofs.format.ListSpelled.make.Goals as goal

pub returns-clause-spelled : goal.returns-clause-spelled
returns-clause-spelled c =
    let list = c.args.self in
    let here : is_list_of c.args.slot list ≡ true = cc (c.in_ok-fits.ensures) in
    (1 ∷ body_of list, ap (λ t. if t then Some (1 ∷ body_of list) else None) here)
