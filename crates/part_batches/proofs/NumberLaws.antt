-- The numbers of rows, collected one after another.
use Rattle.std.proofs.Common.{◌≡◌, ◌∙◌, ℕ, ℤ, ◌+◌, ◌<◌, List, [], ◌∷◌, ◌++◌, length, map, take, get_or, ap, sym}
use Rattle.std.specs.Prelude.{Some, slice_get}
use Rattle.std.proofs.lemmas.List.{append_assoc, get_or-map, map_more}
use Rattle.std.proofs.lemmas.Option.{get_or_from_slice_get}
use Rattle.log_model.specs.History.{Numbered}
use Rattle.block_format.specs.Rows.{key_in, number_of}

no_row : Numbered
no_row = record { batch = 0; place = 0; row = record { moment = 0; labels = []; fields = [] } }

-- one row more
pub put-number : (rows : List Numbered) (i : ℕ) (key : ℤ × ℕ × ℕ) (old out : List (ℕ × ℕ)) → i < length rows
    → slice_get (map key_in rows) i ≡ Some key → out ≡ old ++ map number_of (take i rows)
    → out ++ (key.1, key.2) ∷ [] ≡ old ++ map number_of (take (i + 1) rows)
put-number rows i key old out below is e =
    let read : get_or (map key_in rows) i (key_in no_row) ≡ key =
    get_or_from_slice_get (map key_in rows) i key (key_in no_row) is in
    let key_is : key_in (get_or rows i no_row) ≡ key = sym (get_or-map key_in rows i no_row (key_in no_row) below) ∙ read in
    ap (λ (l : List (ℕ × ℕ)). l ++ (key.1, key.2) ∷ []) e
    ∙ append_assoc old (map number_of (take i rows)) ((key.1, key.2) ∷ [])
    ∙ ap (λ (k : ℤ × ℕ × ℕ). old ++ (map number_of (take i rows) ++ (k.1, k.2) ∷ [])) (sym key_is)
    ∙ ap (λ (l : List (ℕ × ℕ)). old ++ l) (sym (map_more number_of rows i no_row below))
