-- A part that is offered to the shelf.
use Rattle.std.specs.Prelude.{◌≡◌}
use Rattle.std.specs.Arc.{arc_value}
use Rattle.log_core.specs.declared.offer.Offer.{Offer}
use Rattle.log_core.specs.declared.offer.Offer.TheVariants.{Plain, Boxed}

-- the part, in whatever form
abbrev pub offered : {P : Type 0} → Offer P → P
offered (Plain part) = part
offered (Boxed part) = arc_value part

-- the same part in the same form
abbrev pub IsSameOffer : {P : Type 0} → Offer P → Offer P → Type 0
IsSameOffer (Plain part) (Plain back) = back ≡ part
IsSameOffer (Boxed part) (Boxed back) = arc_value back ≡ arc_value part
IsSameOffer (Plain part) (Boxed back) = ⊥
IsSameOffer (Boxed part) (Plain back) = ⊥
