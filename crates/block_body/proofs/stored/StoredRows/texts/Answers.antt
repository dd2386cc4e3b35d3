use Rattle.std.proofs.Common.{◌≡◌, List, subst, true}
use Rattle.std.specs.List.{list_all}
use Rattle.block_model.specs.Texts.{is_text_row}
use Rattle.log_model.specs.History.{Numbered}
use Rattle.block_body.proofs.stored.StoredRows.texts.Goals as goal

pub returns : goal.returns
returns c = subst (λ (rows : List Numbered). list_all is_text_row rows ≡ true) c.self.view_is c.self.invariant.held.texts
