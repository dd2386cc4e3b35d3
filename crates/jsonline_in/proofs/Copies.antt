-- What the copied texts are.
use Rattle.std.proofs.Common.{◌≡◌, ℕ, List, [], ◌∷◌, ◌++◌, map, take, drop, Some, Result, Ok, Err, refl, sym, ap, ◌∙◌}
use Rattle.std.proofs.Common.{append_assoc}
use Rattle.std.specs.Prelude.{flat_map}
use Rattle.std.specs.List.{prefix_len}
use Rattle.std.proofs.lemmas.List.{append-nil}
use Rattle.log_model.specs.Json.{is_plain}
use Rattle.log_model.specs.Token.{Character, plain, source, string_source, string_text}
use Rattle.jsonline_in.specs.Reading.{past, Fault, characters_at, prefix_of}
use Rattle.jsonline_in.specs.Clauses.{mapped}
use Rattle.jsonline_in.proofs.Good.{reads_of}
use Rattle.jsonline_in.proofs.Numbers.{prefix_is}
use Rattle.jsonline_in.proofs.Texts.{IsTail, good_characters}
use Rattle.jsonline_in.proofs.Decoding.{run_and_end, run}

abbrev rest_or : {B : Type 0} → Result (B × List ℕ) Fault → List ℕ
rest_or (Ok x) = x.1
rest_or (Err fault) = []

abbrev value_or : {B : Type 0} → B → Result (B × List ℕ) Fault → B
value_or y (Ok x) = x.0
value_or y (Err fault) = y

-- what a mapped reader read
pub mapped_ok : {A B : Type 0} (made : A → B) (r : Result (A × List ℕ) Fault) (y : B) (rest : List ℕ)
    → mapped made r ≡ Ok (y, rest) → (x : A) × (r ≡ Ok (x, rest)) × (y ≡ made x)
mapped_ok made (Ok x) y rest e = (
  x.0,
  ap (λ (t : List ℕ). Ok (x.0, t)) (ap rest_or e),
  sym
      (ap (value_or (made x.0)) e),
)
mapped_ok made (Err fault) y rest e = absurd cc

pub mapped_err : {A B : Type 0} (made : A → B) (r : Result (A × List ℕ) Fault) (fault : Fault)
    → mapped made r ≡ Err fault → r ≡ Err fault
mapped_err made (Ok x) fault e = absurd cc
mapped_err made (Err other) fault e = let same : other ≡ fault = cc in ap (λ (x : Fault). Err x) same

-- ---- a string with no escape

text_of_plain : (run : List ℕ) → string_text (map plain run) ≡ run
text_of_plain [] = refl
text_of_plain (byte ∷ run) = ap (λ (t : List ℕ). byte ∷ t) (text_of_plain run)

pub plain_string : (old bytes content after end : List ℕ) → content ≡ take (prefix_len is_plain bytes) bytes
    → after ≡ drop (prefix_len is_plain bytes) bytes → past 34 after ≡ Some end
    → mapped (λ characters. old ++ string_text characters) (characters_at bytes) ≡ Ok (old ++ content, end)
plain_string old bytes content after end e f g =
    ap (mapped (λ (characters : List Character). old ++ string_text characters)) (run_and_end bytes after f end g)
    ∙ ap (λ (t : List Character). Ok (old ++ string_text t, end)) (append-nil (run bytes after f))
    ∙ ap (λ (t : List ℕ). Ok (old ++ t, end)) (text_of_plain (take (prefix_len is_plain bytes) bytes) ∙ sym e)

-- ---- sources

module _ {B : Type 0} (made : List Character → B) (bytes rest : List ℕ) (y : B)
    (e : mapped made (characters_at bytes) ≡ Ok (y, rest)) where
  pub string_prefix : (taken : List ℕ) × (bytes ≡ taken ++ rest)
  string_prefix =
      let m = mapped_ok made (characters_at bytes) y rest e in
      let r = reads_of (λ reach. IsTail) characters_at good_characters bytes m.0 rest m.1 in
      (r.text, r.parts)

  pub string_copied : (old quoted new : List ℕ) → quoted ≡ old ++ 34 ∷ [] → new ≡ quoted ++ prefix_of bytes rest
      → mapped (λ characters. old ++ string_source characters) (characters_at bytes) ≡ Ok (new, rest)
  string_copied old quoted new f g =
      let m = mapped_ok made (characters_at bytes) y rest e in
      let r = reads_of (λ reach. IsTail) characters_at good_characters bytes m.0 rest m.1 in
      let prefix : prefix_of bytes rest ≡ flat_map source m.0
      ++ 34 ∷ [] = ap (λ (t : List ℕ). prefix_of t rest) r.parts ∙ prefix_is r.text rest ∙ r.inside.spelled in
      let all : old ++ string_source m.0 ≡ new = sym (g ∙ ap (λ (t : List ℕ). t ++ prefix_of bytes rest) f
      ∙ append_assoc old (34 ∷ []) (prefix_of bytes rest) ∙ ap (λ (t : List ℕ). old ++ 34 ∷ t) prefix) in
      ap (mapped (λ (characters : List Character). old ++ string_source characters)) m.1
      ∙ ap (λ (t : List ℕ). Ok (t, rest)) all
