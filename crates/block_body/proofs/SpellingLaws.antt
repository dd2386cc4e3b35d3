-- What a block writes is its spelling.
use Rattle.std.proofs.Common.{◌≡◌, ℕ, List, ◌++◌, length, ap, refl, sym, ◌∙◌, append_assoc}
use Rattle.std.specs.Int.{w16, to_le_bytes}
use Rattle.std.specs.List.{flat_map}
use Rattle.std.proofs.lemmas.List.{length-map}
use Rattle.block_format.specs.Columns.{column_bytes}
use Rattle.block_format.specs.Keys.{keys_bytes}
use Rattle.block_format.specs.Labels.{labels_bytes}
use Rattle.block_format.specs.Parts.{parts_bytes}
use Rattle.log_model.specs.Field.{Field}
use Rattle.log_model.specs.History.{Numbered}
use Rattle.block_model.specs.Columns.{Column, columns_of, names_of, values_of}
use Rattle.block_model.specs.Keys.{keys_of}
use Rattle.block_model.specs.declared.keys.Key.{Key}
use Rattle.block_body.specs.Held.{IsHeld, columns_in}
use Rattle.block_body.specs.Outline.{NamedFilter, Outline}
use Rattle.block_format.specs.Rows.{labels_of}
use Rattle.block_format.specs.Spelling.{block_bytes}
use Rattle.block_body.proofs.HeldLaws.{columns-held}

pub put-five : (s o p q r t a b c d e : List ℕ) → o ≡ s ++ a → p ≡ o ++ b → q ≡ p ++ c → r ≡ q ++ d → t ≡ r ++ e
    → t ≡ s ++ (a ++ (b ++ (c ++ (d ++ e))))
put-five s o p q r t a b c d e h i j k l =
    l ∙ ap (λ (x : List ℕ). x ++ e) (k ∙ ap (λ (x : List ℕ). x ++ d) (j ∙ ap (λ (x : List ℕ). x ++ c)
    (i ∙ ap (λ (x : List ℕ). x ++ b) h)))
    ∙ append_assoc (((s ++ a) ++ b) ++ c) d e
    ∙ append_assoc ((s ++ a) ++ b) c (d ++ e)
    ∙ append_assoc (s ++ a) b (c ++ (d ++ e))
    ∙ append_assoc s a (b ++ (c ++ (d ++ e)))

abbrev pub written : List Field → List Key → ℕ → List Column → List ℕ
written labels keys count columns =
    labels_bytes labels ++ (to_le_bytes w16 (length keys) ++ (to_le_bytes w16 count
    ++ (keys_bytes keys ++ flat_map column_bytes columns)))

is-written : (rows : List Numbered)
    → written (labels_of rows) (keys_of rows) (length (columns_of rows)) (columns_of rows) ≡ block_bytes rows
unfolding parts_bytes
is-written rows = refl

pub spelled : (rows : List Numbered) (head : Outline) (keys : List Key) (columns : List (List (List ℕ)))
    (labels : List Field) (heads : List NamedFilter) → IsHeld rows head keys columns → labels ≡ head.labels
    → heads ≡ head.columns
    → written labels keys (length columns) (columns_in heads columns) ≡ block_bytes rows
spelled rows head keys columns labels heads h l n =
    let stream : labels ≡ labels_of rows = l ∙ ap (λ (o : Outline). o.labels) h.head_is in
    let count : length columns ≡ length (columns_of rows) = ap length h.columns_are
    ∙ length-map (names_of rows) (values_of rows)
    ∙ sym (length-map (names_of rows) (λ (name : List ℕ). (name, values_of rows name))) in
    let all : columns_in heads columns ≡ columns_of rows = ap (λ (x : List NamedFilter). columns_in x columns) n
    ∙ columns-held rows head keys columns h in
    ap (λ (x : List Field). written x keys (length columns) (columns_in heads columns)) stream
    ∙ ap (λ (x : List Key). written (labels_of rows) x (length columns) (columns_in heads columns)) h.keys_are
    ∙ ap (λ (x : ℕ). written (labels_of rows) (keys_of rows) x (columns_in heads columns)) count
    ∙ ap (λ (x : List Column). written (labels_of rows) (keys_of rows) (length (columns_of rows)) x) all
    ∙ is-written rows
