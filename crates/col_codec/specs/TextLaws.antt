-- Columns of texts as bytes.
use Rattle.std.proofs.Common.{◌≡◌, ℕ, suc, ◌+◌, ◌-◌, ◌<◌, ◌≤◌, ◌^◌, true, eqb, ltb, leb}
use Rattle.std.proofs.Common.{List, [], ◌∷◌, ◌++◌, length, take, Some, Result, Ok, Err}
use Rattle.std.proofs.Common.{refl, sym, ap, ◌∙◌, arith}
use Rattle.std.specs.Prelude.{◌&&◌}
use Rattle.std.specs.List.{flat_map, list_all}
use Rattle.std.specs.Str.{is_utf8}
use Rattle.std.specs.Int.{w32, from_le_bytes, to_le_bytes}
use Rattle.std.proofs.lemmas.Bool.{eqb-true, eq-eqb, lt-ltb, ltb-true, le-leb}
use Rattle.std.proofs.lemmas.List.{append-nil, append_assoc, take_all}
use Rattle.std.proofs.lemmas.List.Concat.{flat_map-cons}
use Rattle.std.proofs.lemmas.List.Sums.{sum_by-cons}
use Rattle.std.proofs.lemmas.Nat.{from_le_bytes-to_le_bytes_4}
use Rattle.byte_format.specs.Format.{value, exactly, followed, repeated, front, whole, ended, ◌>>=◌}
use Rattle.byte_format.specs.Gives.{Stops}
use Rattle.byte_format.specs.Items.{number_that}
use Rattle.byte_format.specs.Spelling.{IsReadAgain}
use Rattle.byte_format.specs.declared.Stop.{Stop}
use Rattle.byte_format.specs.declared.Stop.TheVariants as stops
use Rattle.byte_format.proofs.Cases.{bind_same, both_true, some_from}
use Rattle.byte_format.proofs.Readings.{front-followed, front-item, front-again, breaks}
use Rattle.col_codec.specs.Split.{IsSplit, last_from}
use Rattle.col_codec.specs.Texts.{is_zero, one_end, joined, last_of, parts, texts, text_steps, ends_of, total}
use Rattle.col_codec.specs.Texts.{text_spelling, text_writing}
use Rattle.col_codec.specs.SplitLaws.{last-push, parts_length, parts-ends, parts-joined, parts-total, parts-again}
use Rattle.col_codec.specs.SplitLaws.{ends-last, joined-length}

pub texts-steps : (rows : ℕ) (bytes : List ℕ) → front (texts rows) bytes ≡ text_steps rows bytes
unfolding texts text_steps
texts-steps rows bytes =
    front-followed (number_that w32 is_zero) (λ zero. followed (repeated rows one_end []) joined) bytes
    ∙ bind_same (front (number_that w32 is_zero) bytes) _ _ (λ zero. front-followed
    (repeated rows one_end []) joined zero.1)

-- ---- one end more is read

pub end-read : (ends : List ℕ) (last end : ℕ) (b rest : List ℕ) → last_of ends ≡ last
    → front (number_that w32 (leb last)) b ≡ Ok (end, rest)
    → front (one_end ends) b ≡ Ok (ends ++ end ∷ [], rest)
end-read ends last end b rest l e =
    let e' : front (number_that w32 (leb (last_of ends))) b
    ≡ Ok (end, rest) = ap (λ (n : ℕ). front (number_that w32 (leb n)) b) l ∙ e in
    front-followed (number_that w32 (leb (last_of ends))) (λ end. value (ends ++ end ∷ [])) b ∙ rw e' refl

pub end-stops : (stop : Stop) (ends : List ℕ) (last rows i : ℕ) (b : List ℕ) (all : Result (List ℕ × List ℕ) ℕ)
    → last_of ends ≡ last → i < rows
    → Stops stop (front (number_that w32 (leb last)) b) → front (repeated (rows - i) one_end ends) b ≡ all
    → Stops stop all
end-stops stops.Memory ends last rows i b all l lt s so_far = tt
end-stops (stops.Left left) ends last rows i b all l lt s so_far =
    let s' : front (number_that w32 (leb (last_of ends))) b
    ≡ Err left = ap (λ (n : ℕ). front (number_that w32 (leb n)) b) l ∙ s in
    let here : front (one_end ends) b ≡ Err left = front-followed (number_that w32 (leb (last_of ends)))
    (λ end. value (ends ++ end ∷ [])) b ∙ rw s' refl in
    breaks rows i one_end ends b left all lt here so_far

-- ---- what is stored is spelled so

pub stored-spelling : (bytes ends : List ℕ) → IsSplit bytes ends
    → text_spelling (parts bytes 0 ends) ≡ to_le_bytes w32 0 ++ (flat_map (to_le_bytes w32) ends ++ bytes)
unfolding text_spelling
stored-spelling bytes ends s =
    let all : take (last_from 0 ends - 0) bytes ≡ bytes = take_all (last_from 0 ends - 0) bytes (omega
    (arith, s.all)) in
    ap (λ (l : List ℕ). to_le_bytes w32 0 ++ (flat_map (to_le_bytes w32) l ++ flat_map (λ t. t)
    (parts bytes 0 ends))) (parts-ends bytes 0 ends s.rising (omega (arith, s.all)))
    ∙ ap (λ (l : List ℕ). to_le_bytes w32 0 ++ (flat_map (to_le_bytes w32) ends ++ l))
    (parts-joined bytes 0 ends s.rising ∙ all)

pub split-written : (bytes ends : List ℕ) (rows : ℕ) → IsSplit bytes ends → length ends ≡ rows → last_of ends < 2 ^ 32
    → text_writing rows (parts bytes 0 ends) ≡ Some (text_spelling (parts bytes 0 ends))
unfolding text_writing
split-written bytes ends rows s count fits =
    let len : length (parts bytes 0 ends) ≡ rows = parts_length bytes 0 ends ∙ count in
    let small : total (parts bytes 0 ends) < 2 ^ 32 = omega (
      arith,
      parts-total bytes 0 ends s.rising (omega
          (arith, s.all)),
      fits,
    ) in
    rw (
      eq-eqb (length (parts bytes 0 ends)) rows len,
      s.utf8,
      lt-ltb (total (parts bytes 0 ends))
          (2 ^ 32) small,
    ) refl

-- ---- what is spelled is read

end-again : (ends : List ℕ) (end : ℕ) (rest : List ℕ) → last_of ends ≤ end → end < 2 ^ 32
    → front (one_end ends) (to_le_bytes w32 end ++ rest) ≡ Ok (ends ++ end ∷ [], rest)
end-again ends end rest le lt =
    let back = from_le_bytes-to_le_bytes_4 end lt in
    let good : leb (last_of ends) (from_le_bytes w32 (to_le_bytes w32 end)) ≡ true = ap (leb (last_of ends)) back
    ∙ le-leb (last_of ends) end le in
    let number : front (number_that w32 (leb (last_of ends))) (to_le_bytes w32 end ++ rest) ≡ Ok (end, rest) =
    front-item (exactly 4) (λ bytes. leb (last_of ends) (from_le_bytes w32 bytes)) (λ bytes. value
    (from_le_bytes w32 bytes)) (to_le_bytes w32 end) rest refl good
    ∙ ap (λ (n : ℕ). Ok (n, rest)) back in
    end-read ends (last_of ends) end (to_le_bytes w32 end ++ rest) rest refl number

ends-again : (ts : List (List ℕ)) (acc : List ℕ) (from : ℕ) (rest : List ℕ) → last_of acc ≡ from
    → from + total ts < 2 ^ 32
    → front (repeated (length ts) one_end acc) (flat_map (to_le_bytes w32) (ends_of from ts) ++ rest)
    ≡ Ok (acc ++ ends_of from ts, rest)
ends-again [] acc from rest l lt = ap (λ (e : List ℕ). Ok (e, rest)) (sym (append-nil acc))
ends-again (t ∷ ts) acc from rest l lt =
    let sum = sum_by-cons length t ts in
    let end = from + length t in
    let after = flat_map (to_le_bytes w32) (ends_of (from + length t) ts) ++ rest in
    let regrouped : flat_map (to_le_bytes w32) (ends_of from (t ∷ ts)) ++ rest ≡ to_le_bytes w32 end ++ after =
    ap (λ (e : List ℕ). e ++ rest) (flat_map-cons (to_le_bytes w32) end (ends_of end ts))
    ∙ append_assoc (to_le_bytes w32 end) (flat_map (to_le_bytes w32) (ends_of end ts)) rest in
    ap (front (repeated (suc (length ts)) one_end acc)) regrouped
    ∙ front-again (length ts) one_end acc (acc ++ end ∷ []) (to_le_bytes w32 end ++ after) after
    (end-again acc end after (omega (arith, l)) (omega (arith, sum, lt)))
    ∙ ends-again ts (acc ++ end ∷ []) end rest (last-push acc end) (omega (arith, sum, lt))
    ∙ ap (λ (e : List ℕ). Ok (e, rest)) (append_assoc acc (end ∷ []) (ends_of end ts))

joined-again : (ts : List (List ℕ)) (rest : List ℕ) → list_all is_utf8 ts ≡ true
    → front (joined (ends_of 0 ts)) (flat_map (λ t. t) ts ++ rest) ≡ Ok (ts, rest)
joined-again ts rest utf8 =
    let size : last_of (ends_of 0 ts) ≡ length (flat_map (λ t. t) ts) = ends-last 0 ts
    ∙ omega (arith, joined-length ts) in
    front-item (exactly (last_of (ends_of 0 ts))) (λ bytes. list_all is_utf8 (parts bytes 0 (ends_of 0 ts)))
    (λ bytes. value (parts bytes 0 (ends_of 0 ts)))
    (flat_map (λ t. t) ts) rest size (ap (list_all is_utf8) (parts-again ts) ∙ utf8)
    ∙ ap (λ (x : List (List ℕ)). Ok (x, rest)) (parts-again ts)

pub texts-again : (ts : List (List ℕ)) (rest : List ℕ) → list_all is_utf8 ts ≡ true → total ts < 2 ^ 32
    → front (texts (length ts)) (text_spelling ts ++ rest) ≡ Ok (ts, rest)
unfolding text_steps text_spelling
texts-again ts rest utf8 lt =
    let texts_rest = flat_map (λ t. t) ts ++ rest in
    let ends_rest = flat_map (to_le_bytes w32) (ends_of 0 ts) ++ texts_rest in
    let regrouped : text_spelling ts ++ rest ≡ to_le_bytes w32 0 ++ ends_rest =
    append_assoc (to_le_bytes w32 0) (flat_map (to_le_bytes w32) (ends_of 0 ts) ++ flat_map (λ t. t) ts) rest
    ∙ ap (λ (l : List ℕ). to_le_bytes w32 0 ++ l) (append_assoc (flat_map (to_le_bytes w32) (ends_of 0 ts))
    (flat_map (λ t. t) ts) rest) in
    let zero : front (number_that w32 is_zero) (to_le_bytes w32 0 ++ ends_rest) ≡ Ok (0, ends_rest) =
    front-item (exactly 4) (λ bytes. is_zero (from_le_bytes w32 bytes)) (λ bytes. value (from_le_bytes w32 bytes))
    (to_le_bytes w32 0) ends_rest refl refl in
    let ends = ends-again ts [] 0 texts_rest refl (omega (arith, lt)) in
    ap (front (texts (length ts))) regrouped ∙ texts-steps (length ts) (to_le_bytes w32 0 ++ ends_rest)
    ∙ rw (zero, ends) (joined-again ts rest utf8)

pub is_read_again : (rows : ℕ) → IsReadAgain (texts rows) (text_writing rows)
unfolding text_writing
is_read_again rows ts bytes e =
    let g = some_from ((eqb (length ts) rows) && (list_all is_utf8 ts && ltb (total ts) (2 ^ 32)))
    (text_spelling ts) bytes e in
    let p = both_true (eqb (length ts) rows) (list_all is_utf8 ts && ltb (total ts) (2 ^ 32)) g.0 in
    let q = both_true (list_all is_utf8 ts) (ltb (total ts) (2 ^ 32)) p.1 in
    let n : length ts ≡ rows = eqb-true (length ts) rows p.0 in
    let again = texts-again ts [] q.0 (ltb-true (total ts) (2 ^ 32) q.1) in
    ap (whole (texts rows)) (sym g.1 ∙ sym (append-nil (text_spelling ts)))
    ∙ ap (λ (k : ℕ). whole (texts k) (text_spelling ts ++ [])) (sym n)
    ∙ ap (λ (r : Result (List (List ℕ) × List ℕ) ℕ). r >>= ended) again

pub writing-is : (rows : ℕ) (ts : List (List ℕ)) (bytes : List ℕ) → text_writing rows ts ≡ Some bytes
    → (length ts ≡ rows) × (bytes ≡ text_spelling ts)
unfolding text_writing
writing-is rows ts bytes e =
    let g = some_from ((eqb (length ts) rows) && (list_all is_utf8 ts && ltb (total ts) (2 ^ 32)))
    (text_spelling ts) bytes e in
    let p = both_true (eqb (length ts) rows) (list_all is_utf8 ts && ltb (total ts) (2 ^ 32)) g.0 in
    (eqb-true (length ts) rows p.0, sym g.1)
