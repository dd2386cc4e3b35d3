use Rattle.std.proofs.Common.{ℕ, List, MatchResult, rules}
use Rattle.std.proofs.lemmas.Fn.{always_returns_same}
use Rattle.log_model.specs.Field.{bytes_cmp}
use Rattle.vl_row.specs.Place.{IsAt, IsGapAt}
use Rattle.vl_row.proofs.Sorted.{searched}
use Rattle.block_body.specs.Outline.{NamedFilter}
use Rattle.block_body.proofs.PlaceLaws.{name-found, name-missing}
use Rattle.block_body.proofs.head.place_in.Goals as goal

pub returns-in-Ok : goal.returns-in-Ok
returns-in-Ok c =
    let columns : List NamedFilter = c.args.columns.now in
    let name : List ℕ = c.args.name.now in
    let order = λ (column : NamedFilter). bytes_cmp column.0 name in
    let found : MatchResult c.binary_search_by.result (IsAt columns name) (IsGapAt columns name) =
    searched columns name c.binary_search_by.result c.requires c.binary_search_by.ensures.bound
    (c.binary_search_by.ensures.position order (always_returns_same _ _ _ (λ a r f' called. search rules))) in
    record { some = name-found columns name c.in-Ok.c (rw c.in-Ok.is at found); none = tt }

pub returns-in-Err : goal.returns-in-Err
returns-in-Err c =
    let columns : List NamedFilter = c.args.columns.now in
    let name : List ℕ = c.args.name.now in
    let order = λ (column : NamedFilter). bytes_cmp column.0 name in
    let found : MatchResult c.binary_search_by.result (IsAt columns name) (IsGapAt columns name) =
    searched columns name c.binary_search_by.result c.requires c.binary_search_by.ensures.bound
    (c.binary_search_by.ensures.position order (always_returns_same _ _ _ (λ a r f' called. search rules))) in
    record { some = tt; none = name-missing columns name c.in-Err.field-0 (rw c.in-Err.is at found) }
