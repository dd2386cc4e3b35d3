-- The tokens of a text stand after one another, and all before its end.
use Rattle.std.proofs.Common.{◌≡◌, ℕ, suc, ◌+◌, ◌<◌, ◌≤◌, List, [], ◌∷◌, ◌++◌, length, map, chars, refl, sym, ap, ◌∙◌}
use Rattle.std.proofs.Common.{subst, arith, encode_utf8, append_assoc}
use Rattle.std.specs.Str.{encode_utf8_all}
use Rattle.std.proofs.lemmas.List.{length-append}
use Rattle.std.proofs.lemmas.Str.{length-encode, len_utf8_bounds}
use Rattle.grammar.specs.Rule.{Token}
use Rattle.grammar.proofs.Flaws.{Behind}
use Rattle.grammar.proofs.Good.{PlaceIn, place_ahead}
use Rattle.lq_lex.specs.Token.{Token as Piece}
use Rattle.lq_lex.specs.Lexing.{width, IsNext, GoesOn, IsSpace}
use Rattle.lq_lex.proofs.Spaces.{token_some}
use Rattle.lq_lex.proofs.Widths.{width-chars, width-append}
use Rattle.lq_grammar.specs.Values.{Bytes}
use Rattle.lq_grammar.specs.Items.{item_of}
use Rattle.lq_grammar.specs.Query.{Items, HasItems, place_or_end}

-- the first stands here or later, each after the one before it, and the end is after all
abbrev Rising : ℕ → ℕ → Items → Type 0
Rising low end [] = low ≤ end
Rising low end (t ∷ ts) = (low ≤ t.place) × Rising (suc t.place) end ts

lower : (low high end : ℕ) (items : Items) → low ≤ high → Rising high end items → Rising low end items
lower low high end [] less r = omega (arith, less, r)
lower low high end (t ∷ ts) less r = (omega (arith, less, r.0), r.1)

-- ---- tokens of a text

some_width : (c : ℕ) (cs : List ℕ) → 0 < width (c ∷ cs)
some_width c cs =
    omega (arith, length-append (encode_utf8 c) (encode_utf8_all cs), length-encode c, len_utf8_bounds c)

abbrev Ends : Piece → ℕ
Ends t = t.start + length t.span

-- where a token stands, and where the rest of the text does
next_place : (before end : ℕ) (text : List ℕ) (t : Piece) (rest : List ℕ) → end ≡ before + width text
    → IsNext before text t rest → (before ≤ t.start) × (suc t.start ≤ Ends t) × (end ≡ Ends t + width rest)
next_place before end text t rest same n =
    let some = token_some t.kind n.body rest n.is_token in
    let long : 0 < width n.body = subst (λ (l : List ℕ). 0 < width l) (sym some.2) (some_width some.0 some.1) in
    let body : length t.span ≡ width n.body = ap length n.span_is in
    let whole : width text ≡ width n.gap + (width n.body + width rest) =
    ap width n.spelled ∙ width-append n.gap (n.body ++ rest)
    ∙ ap (λ (k : ℕ). width n.gap + k) (width-append n.body rest) in
    (omega (arith, n.start_is), omega (arith, long, body), omega (arith, n.start_is, body, whole, same))

item_place : (t : Piece) → (item_of t).place ≡ t.start
unfolding item_of
item_place t = refl

all_rise : (before end : ℕ) (text : List ℕ) (ts : List Piece) → end ≡ before + width text
    → GoesOn before text ts IsSpace → Rising before end (map item_of ts)
all_rise before end text [] same g = omega (arith, same)
all_rise before end text (t ∷ ts) same (rest, n, others) =
    let p = next_place before end text t rest same n in (
      omega (arith, p.0, item_place t),
      lower (suc (item_of t).place) (Ends t) end (map item_of ts) (omega (arith, p.1, item_place t))
          (all_rise (Ends t) end rest ts p.2 others),
    )

items_rise : (text : Bytes) (items : Items) → HasItems text items → Rising 0 (length text) items
items_rise text items has =
    subst (Rising 0 (length text)) (sym has.items_are)
    (all_rise 0 (length text) (chars text) has.tokens (omega (arith, width-chars text has.utf8)) has.are_tokens.1)

-- ---- places before others

low_rest : (low : ℕ) (text : Bytes) (before rest : Items) → Rising low (length text) (before ++ rest)
    → low ≤ place_or_end text rest
low_rest low text [] [] r = r
low_rest low text [] (t ∷ ts) r = r.0
low_rest low text (t ∷ before) rest r =
    omega (arith, r.0, low_rest (suc t.place) text before rest r.1)

rising_before : (low : ℕ) (text : Bytes) (before : Items) (t : Token Bytes) (behind rest : Items)
    → Rising low (length text) (before ++ (t ∷ (behind ++ rest))) → t.place < place_or_end text rest
rising_before low text [] t behind rest r = omega (arith, low_rest (suc t.place) text behind rest r.1)
rising_before low text (s ∷ before) t behind rest r = rising_before (suc s.place) text before t behind rest r.1

-- a token of the first part stands before the others, and before the end
pub place_before : (text : Bytes) (items before rest : Items) (at : ℕ) → HasItems text items → items ≡ before ++ rest
    → PlaceIn at before → at < place_or_end text rest
place_before text items before rest at has parts p =
    let cut : items ≡ p.before ++ (p.token ∷ (p.behind ++ rest)) =
    parts ∙ ap (λ (l : Items). l ++ rest) p.parts ∙ append_assoc p.before (p.token ∷ p.behind) rest in
    let less = rising_before 0 text p.before p.token p.behind rest
    (subst (Rising 0 (length text)) cut (items_rise text items has)) in
    subst (λ (n : ℕ). n < place_or_end text rest) (sym p.place_is) less

-- where one stands after the other, it does so in the text
pub behind_less : (text : Bytes) (items : Items) (one other : ℕ) → HasItems text items → Behind items one other
    → one < other
behind_less text items one other has b =
    let p = b.there_in in
    let cut : items ≡ (b.front ++ p.before) ++ (p.token ∷ p.behind) =
    b.parts ∙ ap (λ (l : Items). b.front ++ l) p.parts ∙ sym (append_assoc b.front p.before (p.token ∷ p.behind)) in
    let less = place_before text items (b.front ++ p.before) (p.token ∷ p.behind) one has cut
    (place_ahead one b.front p.before b.here_in) in
    omega (arith, less, p.place_is)
