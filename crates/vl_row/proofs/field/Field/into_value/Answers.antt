use Rattle.std.proofs.Common.{ap}
use Rattle.log_model.specs.Field.{Field}
use Rattle.vl_row.proofs.field.Field.into_value.Goals as goal

pub returns : goal.returns
returns c = ap (λ (field : Field). field.1) c.self.view_is
