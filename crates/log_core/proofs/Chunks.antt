-- Chunks: lists of 64 parts each, but for the last.
use Rattle.std.proofs.Common.{◌≡◌, ℕ, zero, suc, ◌+◌, ◌*◌, ◌-◌, ◌<◌, ◌≤◌, List, [], ◌∷◌, ◌++◌, length, get_or, set, map}
use Rattle.std.proofs.Common.{take, drop, refl, sym, ap, subst, ◌∙◌, arith, append_assoc, length-append}
use Rattle.std.proofs.lemmas.List.{append-nil, drop-append-le, drop-map, drop_all, get_or-map, length-map, map-set}
use Rattle.std.proofs.lemmas.List.{set-get_or}
use Rattle.std.proofs.lemmas.Option.{slice_get-map, slice_get_read}
use Rattle.std.specs.Prelude.{Err, Ok, OnErr, OnOk, Result, Some}
use Rattle.std.specs.Option.{option_map}
use Rattle.std.specs.Vec.{vec_len}
use Rattle.std.specs.Arc.{arc_value}
use Rattle.std.specs.List.{slice_get}
use Rattle.std.specs.declared.sync.Arc.{Arc}
use Rattle.std.specs.declared.vec.Vec.{Vec}
use Rattle.log_core.specs.Shared.{AreChunks, AreFilled, HasRoom, joined, lists_in, parts_in, shared_parts}

-- Copies of the pointers share the lists.
pub lists_in-same : {P Z Y W : Type 0} (xs ys : List (Arc (Vec (Arc P Z) Y) W)) → map arc_value xs ≡ map arc_value ys
    → lists_in xs ≡ lists_in ys
lists_in-same {P} {Z} {Y} {W} xs ys same = sym (by xs) ∙ ap (map (λ (v : Vec (Arc P Z) Y). shared_parts v.items)) same
    ∙ by ys
  where
    by : (zs : List (Arc (Vec (Arc P Z) Y) W))
        → map (λ (v : Vec (Arc P Z) Y). shared_parts v.items) (map arc_value zs) ≡ lists_in zs
    by [] = refl
    by (z ∷ zs) = ap (λ rest. shared_parts (arc_value z).items ∷ rest) (by zs)

-- the chunk that is read at a place
list_at : {P Z Y W : Type 0} (chunks : List (Arc (Vec (Arc P Z) Y) W)) (q : ℕ) (chunk : Arc (Vec (Arc P Z) Y) W)
    → q < length chunks → chunk ≡ get_or chunks q chunk → get_or (lists_in chunks) q [] ≡ parts_in chunk
list_at chunks q chunk inside is = get_or-map parts_in chunks q chunk [] inside ∙ ap parts_in (sym is)

-- its length
pub length_at : {P Z Y W : Type 0} (chunks : List (Arc (Vec (Arc P Z) Y) W)) (q : ℕ) (chunk : Arc (Vec (Arc P Z) Y) W)
    (list : Vec (Arc P Z) Y) → q < length chunks → chunk ≡ get_or chunks q chunk → list ≡ arc_value chunk
    → length (get_or (lists_in chunks) q []) ≡ vec_len list
length_at {P} {Z} {Y} chunks q chunk list inside is same =
    ap length (list_at chunks q chunk inside is) ∙ length-map (arc_value chunk).items arc_value
    ∙ ap (λ (v : Vec (Arc P Z) Y). length v.items) (sym same) ∙ sym list.ok.0

-- the part that is read in it
pub part_at : {P Z Y W : Type 0} (chunks : List (Arc (Vec (Arc P Z) Y) W)) (q r : ℕ) (chunk : Arc (Vec (Arc P Z) Y) W)
    (list : Vec (Arc P Z) Y) (part : Arc P Z) → q < length chunks → chunk ≡ get_or chunks q chunk
    → list ≡ arc_value chunk → r < length list.items → part ≡ get_or list.items r part
    → slice_get (get_or (lists_in chunks) q []) r ≡ Some (arc_value part)
part_at {P} {Z} {Y} chunks q r chunk list part inside is same below read =
    ap (λ parts. slice_get parts r) (list_at chunks q chunk inside is)
    ∙ ap (λ (v : Vec (Arc P Z) Y). slice_get (shared_parts v.items) r) (sym same)
    ∙ slice_get-map arc_value list.items r
    ∙ ap (option_map arc_value) (slice_get_read list.items (length list.items) r part refl below read)

-- ---- one more chunk, or one more part in the last

-- Once the last chunk is full, another may begin.
pub AreChunks-begin : {P : Type 0} (lists : List (List P)) → AreChunks lists → AreFilled lists
    → AreChunks (lists ++ [] ∷ [])
AreChunks-begin [] are full = omega arith
AreChunks-begin (c ∷ []) are full =
    let long : 64 ≤ length c = full 0 (omega arith) in (omega arith, omega arith)
AreChunks-begin (c ∷ d ∷ lists) are full =
    (are.0, AreChunks-begin (d ∷ lists) are.1 (λ last is. full (suc last) (omega arith)))

pub joined-begin : {P : Type 0} (lists : List (List P)) → joined (lists ++ [] ∷ []) ≡ joined lists
joined-begin [] = refl
joined-begin (c ∷ lists) = ap (λ rest. c ++ rest) (joined-begin lists)

-- The last chunk may be another, which is not too long.
pub AreChunks-set : {P : Type 0} (lists : List (List P)) (last : ℕ) (list : List P) → suc last ≡ length lists
    → length list ≤ 64 → AreChunks lists → AreChunks (set lists last list)
AreChunks-set [] last list is few are = absurd (omega arith)
AreChunks-set (c ∷ []) zero list is few are = few
AreChunks-set (c ∷ []) (suc last) list is few are = absurd (omega arith)
AreChunks-set (c ∷ d ∷ lists) zero list is few are = absurd (omega arith)
AreChunks-set (c ∷ d ∷ []) (suc zero) list is few are = (are.0, few)
AreChunks-set (c ∷ d ∷ e ∷ lists) (suc zero) list is few are = absurd (omega arith)
AreChunks-set (c ∷ d ∷ lists) (suc (suc last)) list is few are =
    (are.0, AreChunks-set (d ∷ lists) (suc last) list (omega arith) few are.1)

-- A part more in the last chunk is a part more at the end of all.
pub joined-push : {P : Type 0} (lists : List (List P)) (last : ℕ) (part : P) → suc last ≡ length lists
    → joined (set lists last (get_or lists last [] ++ part ∷ [])) ≡ joined lists ++ part ∷ []
joined-push [] last part is = absurd (omega arith)
joined-push (c ∷ []) zero part is = append-nil (c ++ part ∷ []) ∙ ap (λ list. list ++ part ∷ []) (sym (append-nil c))
joined-push (c ∷ []) (suc last) part is = absurd (omega arith)
joined-push (c ∷ d ∷ lists) zero part is = absurd (omega arith)
joined-push (c ∷ d ∷ lists) (suc last) part is =
    ap (λ rest. c ++ rest) (joined-push (d ∷ lists) last part (omega arith))
    ∙ sym (append_assoc c (joined (d ∷ lists)) (part ∷ []))

-- The last chunk has one part more, or it has the same parts.
pub record IsPushed {P Z Y W : Type 0} (chunks : List (Arc (Vec (Arc P Z) Y) W)) (last : ℕ)
    (new : Arc (Vec (Arc P Z) Y) W) (added : List P) : Type 0 where
  pub parts : joined (lists_in (set chunks last new)) ≡ joined (lists_in chunks) ++ added
  pub chunked : AreChunks (lists_in (set chunks last new))

pub is_pushed : {P Z Y W : Type 0} (chunks : List (Arc (Vec (Arc P Z) Y) W)) (last : ℕ)
    (old new : Arc (Vec (Arc P Z) Y) W) (part : P) → old ≡ get_or chunks last old → HasRoom (lists_in chunks) last
    → AreChunks (lists_in chunks) → parts_in new ≡ parts_in old ++ part ∷ []
    → IsPushed chunks last new (part ∷ [])
is_pushed chunks last old new part is room are same =
    let inside : last < length chunks = omega (arith, room.0, length-map chunks parts_in) in
    let here : parts_in old ≡ get_or (lists_in chunks) last [] = sym (list_at chunks last old inside is) in
    let new_is : parts_in new ≡ get_or (lists_in chunks) last [] ++ part ∷ [] =
    same ∙ ap (λ list. list ++ part ∷ []) here in
    let all = map-set parts_in chunks last new ∙ ap (set (lists_in chunks) last) new_is in
    let end : suc last ≡ length (lists_in chunks) = omega (arith, room.0) in
    record {
      parts = ap joined all ∙ joined-push (lists_in chunks) last part end;
      chunked = subst AreChunks (sym all) (AreChunks-set (lists_in chunks) last
          (get_or (lists_in chunks) last [] ++ part ∷ []) end
          (omega (arith, room.1, length-append (get_or (lists_in chunks) last []) (part ∷ []))) are);
    }

pub is_kept : {P Z Y W : Type 0} (chunks : List (Arc (Vec (Arc P Z) Y) W)) (last : ℕ)
    (old new : Arc (Vec (Arc P Z) Y) W) → old ≡ get_or chunks last old → HasRoom (lists_in chunks) last
    → parts_in new ≡ parts_in old → lists_in (set chunks last new) ≡ lists_in chunks
is_kept chunks last old new is room same =
    let inside : last < length chunks = omega (arith, room.0, length-map chunks parts_in) in
    map-set parts_in chunks last new
    ∙ ap (set (lists_in chunks) last) (same ∙ sym (list_at chunks last old inside is))
    ∙ set-get_or (lists_in chunks) last []

-- After a part was appended, or was not.
pub record IsAppended {P A E : Type 0} (result : Result A E) (old : List P) (part : P) (new : List (List P)) : Type 0 where
  pub ok : OnOk result (joined new ≡ old ++ part ∷ [])
  pub err : OnErr result (joined new ≡ old)
  pub chunked : AreChunks new

pub is_appended : {P Z Y W A E : Type 0} (result : Result A E) (chunks : List (Arc (Vec (Arc P Z) Y) W)) (last : ℕ)
    (old new : Arc (Vec (Arc P Z) Y) W) (before : List P) (part : P)
    → old ≡ get_or chunks last old → HasRoom (lists_in chunks) last → AreChunks (lists_in chunks)
    → joined (lists_in chunks) ≡ before → OnOk result (parts_in new ≡ parts_in old ++ part ∷ [])
    → OnErr result (parts_in new ≡ parts_in old) → IsAppended result before part (lists_in (set chunks last new))
is_appended (Ok done) chunks last old new before part is room are same ok err =
    let pushed = is_pushed chunks last old new part is room are ok in
    record { ok = pushed.parts ∙ ap (λ list. list ++ part ∷ []) same; err = tt; chunked = pushed.chunked }
is_appended (Err fault) chunks last old new before part is room are same ok err =
    let kept = is_kept chunks last old new is room err in
    record { ok = tt; err = ap joined kept ∙ same; chunked = subst AreChunks (sym kept) are }

-- ---- the part at a place

slice_get-left : {X : Type 0} (xs ys : List X) (k : ℕ) → k < length xs → slice_get (xs ++ ys) k ≡ slice_get xs k
slice_get-left [] ys k below = absurd (omega arith)
slice_get-left (x ∷ xs) ys zero below = refl
slice_get-left (x ∷ xs) ys (suc k) below = slice_get-left xs ys k (omega arith)

pub slice_get-right : {X : Type 0} (xs ys : List X) (k m : ℕ) → k ≡ length xs + m
    → slice_get (xs ++ ys) k ≡ slice_get ys m
slice_get-right [] ys k m is = ap (slice_get ys) (omega arith)
slice_get-right (x ∷ xs) ys zero m is = absurd (omega arith)
slice_get-right (x ∷ xs) ys (suc k) m is = slice_get-right xs ys k m (omega arith)

-- The part at this place is in this chunk.
pub record IsIn {P : Type 0} (lists : List (List P)) (place q r : ℕ) : Type 0 where
  pub chunk : q < length lists
  pub rest : r < length (get_or lists q [])
  pub part : slice_get (joined lists) place ≡ slice_get (get_or lists q []) r

pub is_in : {P : Type 0} (lists : List (List P)) (place q r : ℕ) → place ≡ q * 64 + r → r < 64 → AreChunks lists
    → place < length (joined lists) → IsIn lists place q r
is_in [] place q r is few are below = absurd (omega arith)
is_in (c ∷ []) place zero r is few are below =
    let same : c ++ [] ≡ c = append-nil c in
    let long = ap length same in
    let at : place ≡ r = omega arith in
    record {
      chunk = omega arith;
      rest = omega arith;
      part = ap (λ list. slice_get list place) same ∙ ap (slice_get c) at;
    }
is_in (c ∷ []) place (suc q) r is few are below =
    let long = ap length (append-nil c) in absurd (omega arith)
is_in (c ∷ d ∷ lists) place zero r is few are below =
    let at : place ≡ r = omega arith in
    let long = are.0 in
    record {
      chunk = omega arith;
      rest = omega arith;
      part = slice_get-left c (joined (d ∷ lists)) place (omega arith) ∙ ap (slice_get c) at;
    }
is_in (c ∷ d ∷ lists) place (suc q) r is few are below =
    let long = are.0 in
    let whole = length-append c (joined (d ∷ lists)) in
    let later = is_in (d ∷ lists) (q * 64 + r) q r refl few are.1 (omega arith) in
    record {
      chunk = let inside = later.chunk in omega arith;
      rest = later.rest;
      part = slice_get-right c (joined (d ∷ lists)) place (q * 64 + r) (omega arith) ∙ later.part;
    }

-- ---- the parts after the first

drop-right : {X : Type 0} (xs ys : List X) (k m : ℕ) → k ≡ length xs + m → drop k (xs ++ ys) ≡ drop m ys
drop-right [] ys k m is = ap (λ n. drop n ys) (omega arith)
drop-right (x ∷ xs) ys zero m is = absurd (omega arith)
drop-right (x ∷ xs) ys (suc k) m is = drop-right xs ys k m (omega arith)

pub AreChunks-drop : {P : Type 0} (n : ℕ) (lists : List (List P)) → AreChunks lists → AreChunks (drop n lists)
AreChunks-drop zero lists are = are
AreChunks-drop (suc n) [] are = tt
AreChunks-drop (suc zero) (c ∷ []) are = tt
AreChunks-drop (suc (suc n)) (c ∷ []) are = tt
AreChunks-drop (suc n) (c ∷ d ∷ lists) are = AreChunks-drop n (d ∷ lists) are.1

-- The list is cut in this chunk.
pub record IsCutIn {P : Type 0} (lists : List (List P)) (gone q r : ℕ) : Type 0 where
  pub rest : r ≤ length (get_or lists q [])
  pub later : drop r (get_or lists q []) ++ joined (drop (q + 1) lists) ≡ drop gone (joined lists)

pub is_cut_in : {P : Type 0} (lists : List (List P)) (gone q r : ℕ) → gone ≡ q * 64 + r → r < 64 → AreChunks lists
    → gone ≤ length (joined lists) → q < length lists → IsCutIn lists gone q r
is_cut_in [] gone q r is few are within inside = absurd (omega arith)
is_cut_in (c ∷ []) gone zero r is few are within inside =
    let long = ap length (append-nil c) in
    let at : gone ≡ r = omega arith in
    record {
      rest = omega arith;
      later = sym (drop-append-le r c [] (omega arith)) ∙ ap (λ n. drop n (c ++ [])) (sym at);
    }
is_cut_in (c ∷ []) gone (suc q) r is few are within inside = absurd (omega arith)
is_cut_in (c ∷ d ∷ lists) gone zero r is few are within inside =
    let long = are.0 in
    let at : gone ≡ r = omega arith in
    record {
      rest = omega arith;
      later = sym (drop-append-le r c (joined (d ∷ lists)) (omega arith))
          ∙ ap (λ n. drop n (c ++ joined (d ∷ lists))) (sym at);
    }
is_cut_in (c ∷ d ∷ lists) gone (suc q) r is few are within inside =
    let long = are.0 in
    let whole = length-append c (joined (d ∷ lists)) in
    let next : suc q + 1 ≡ suc (q + 1) = omega arith in
    let more = is_cut_in (d ∷ lists) (q * 64 + r) q r refl few are.1 (omega arith) (omega arith) in
    record {
      rest = more.rest;
      later = ap (λ n. drop r (get_or (d ∷ lists) q []) ++ joined (drop n (c ∷ d ∷ lists))) next
          ∙ more.later ∙ sym (drop-right c (joined (d ∷ lists)) gone (q * 64 + r) (omega arith));
    }

-- ---- what is left

-- the pointers after the first of a list
pub parts_left : {P Z : Type 0} (held left : List (Arc P Z)) (n : ℕ) → map arc_value left ≡ map arc_value (drop n held)
    → shared_parts left ≡ drop n (shared_parts held)
parts_left held left n same = same ∙ sym (drop-map arc_value n held)

-- the chunks after the first
pub chunks_left : {P Z Y W : Type 0} (held left : List (Arc (Vec (Arc P Z) Y) W)) (n : ℕ)
    → map arc_value left ≡ map arc_value (drop n held) → lists_in left ≡ drop n (lists_in held)
chunks_left held left n same = lists_in-same left (drop n held) same ∙ sym (drop-map parts_in n held)

-- where the cut is in no chunk
pub left_of_early : {P : Type 0} (others left : List P) (lists later : List (List P)) (gone : ℕ) (unsettled : List P)
    → others ++ joined lists ≡ unsettled → gone ≤ length others → left ≡ drop gone others → later ≡ lists
    → left ++ joined later ≡ drop gone unsettled
left_of_early others left lists later gone unsettled held within same all =
    ap (λ list. list ++ joined later) same ∙ ap (λ ls. drop gone others ++ joined ls) all
    ∙ sym (drop-append-le gone others (joined lists) within) ∙ ap (drop gone) held

-- where it is in a chunk
pub left_of_cut : {P : Type 0} (lists later : List (List P)) (left : List P) (gone q r : ℕ) → IsCutIn lists gone q r
    → left ≡ drop r (get_or lists q []) → later ≡ drop (q + 1) lists
    → left ++ joined later ≡ drop gone (joined lists)
left_of_cut lists later left gone q r cut same rest =
    ap (λ list. list ++ joined later) same ∙ ap (λ ls. drop r (get_or lists q []) ++ joined ls) rest ∙ cut.later

-- the rest of the chunk that is cut
pub left_in : {P Z Y W : Type 0} (chunks : List (Arc (Vec (Arc P Z) Y) W)) (q r : ℕ) (chunk : Arc (Vec (Arc P Z) Y) W)
    (list : Vec (Arc P Z) Y) (items left : List (Arc P Z)) → q < length chunks → chunk ≡ get_or chunks q chunk
    → list ≡ arc_value chunk → items ≡ list.items → map arc_value left ≡ map arc_value (drop r items)
    → shared_parts left ≡ drop r (get_or (lists_in chunks) q [])
left_in {P} {Z} {Y} chunks q r chunk list items left inside is value slice same =
    parts_left items left r same
    ∙ ap (λ (all : List (Arc P Z)). drop r (shared_parts all)) (slice ∙ ap (λ (v : Vec (Arc P Z) Y). v.items) value)
    ∙ ap (drop r) (sym (list_at chunks q chunk inside is))

-- where the early parts are all gone
pub left_after : {P : Type 0} (others rest : List P) (lists : List (List P)) (gone m : ℕ) (unsettled : List P)
    → others ++ joined lists ≡ unsettled → gone ≡ length others + m → rest ≡ drop m (joined lists)
    → rest ≡ drop gone unsettled
left_after others rest lists gone m unsettled held is same =
    same ∙ sym (drop-right others (joined lists) gone m is) ∙ ap (drop gone) held

length-joined : {P : Type 0} (lists : List (List P)) → AreChunks lists → length (joined lists) ≤ length lists * 64
length-joined [] are = omega arith
length-joined (c ∷ []) are = let long = ap length (append-nil c) in omega arith
length-joined (c ∷ d ∷ lists) are =
    omega (arith, are.0, length-append c (joined (d ∷ lists)), length-joined (d ∷ lists) are.1)

-- Nothing is left where it is cut in none.
pub cut_after_all : {P : Type 0} (lists : List (List P)) (gone q r : ℕ) → gone ≡ q * 64 + r → AreChunks lists
    → length lists ≤ q → [] ≡ drop gone (joined lists)
cut_after_all lists gone q r is are past = sym (drop_all gone (joined lists) (omega (arith, length-joined lists are)))
