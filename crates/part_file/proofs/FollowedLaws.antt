-- Blocks that follow one another are those of a part.
use Rattle.std.proofs.Common.{◌≡◌, ℕ, ℤ, zero, suc, ◌+◌, ◌*◌, ◌-◌, ◌^◌, ◌<◌, ◌≤◌, Bool, true, false, List, [], ◌∷◌, ◌++◌, Bor, Some, drop, map, take}
use Rattle.std.proofs.Common.{get_or, length, refl, sym, ap, subst, ◌∙◌, arith}
use Rattle.std.specs.Prelude.{◌&&◌, nat_le, slice_get}
use Rattle.std.specs.BTreeSet.{insert_key}
use Rattle.std.specs.Int.{w32, to_le_bytes}
use Rattle.std.specs.List.{AllByRecursion, flat_map, fold, list_all}
use Rattle.std.proofs.lemmas.Bool.{and_from, and_parts, lt-leb}
use Rattle.std.proofs.lemmas.List.{append-nil, append_assoc, length-append, map-append, take-append-drop, take_more}
use Rattle.std.proofs.lemmas.List.Folds.{list_all-append}
use Rattle.std.proofs.lemmas.List.Concat.{flat_map-append}
use Rattle.std.proofs.lemmas.List.Sums.{fold-append, fold_push}
use Rattle.std.proofs.lemmas.Option.{get_or_from_slice_get, slice_get_within}
use Rattle.byte_format.proofs.Cases.{second_false}
use Rattle.log_model.specs.Field.{Field, bytes_cmp}
use Rattle.log_model.specs.History.{Numbered}
use Rattle.block_body.specs.Outline.{NamedFilter, Outline}
use Rattle.block_body.specs.Outlines.{filter_named, outline_of}
use Rattle.block_format.specs.Reading.{has_spelling, same_fields}
use Rattle.block_format.specs.Rows.{IsBlock, are_ordered, comes_before, key_in, labels_of, number_of}
use Rattle.block_format.specs.Spelling.{block_bytes}
use Rattle.block_format.proofs.TestLaws.{block-holds}
use Rattle.block_model.specs.Columns.{names_in, names_of, put_names}
use Rattle.block_model.specs.Distinct.{distinct}
use Rattle.block_model.proofs.Distinct.{map-put}
use Rattle.block_model.proofs.NameLaws.{names-rising}
use Rattle.block_model.proofs.Rising.{distinct-rising}
use Rattle.block_model.proofs.Same.{distinct-listed, same-rising}
use Rattle.part_model.specs.Filling.{AreFilled, AreFull, has_room, is_within, rows_in_blocks}
use Rattle.part_model.specs.Order.{are_in_order, is_earlier}
use Rattle.part_model.specs.Part.{ArePartRows, IsPart}
use Rattle.part_model.proofs.FillLaws.{same-are}
use Rattle.part_model.proofs.OrderLaws.{earlier-all, earlier-comes}
use Rattle.part_file.specs.Blocks.{blocks_bytes, sized_block_bytes}
use Rattle.part_file.specs.Followed.{AreFollowed, IsFollowedBy}
use Rattle.part_file.specs.Format.{head_bytes, is_sized, part_writing}
use Rattle.part_file.specs.TestLaws.{is-written, part-bytes, sized-spelled, written-part}

-- ---- blocks that have a spelling

spelled-blocks : (blocks : List (List Numbered)) → list_all has_spelling blocks ≡ true → AllByRecursion IsBlock blocks
spelled-blocks [] e = tt
spelled-blocks (block ∷ blocks) e =
    let p = and_parts (has_spelling block) (list_all has_spelling blocks) e in
    ((block-holds block p.0).block, spelled-blocks blocks p.1)

pub sized-blocks : (blocks : List (List Numbered)) → list_all is_sized blocks ≡ true → AllByRecursion IsBlock blocks
sized-blocks blocks e = spelled-blocks blocks (sized-spelled blocks e)

-- ---- the rows of a block are in the order of a part

all-earlier : (a : Numbered) (rows : List Numbered) → AllByRecursion (λ (n : Numbered). n.row.labels ≡ a.row.labels) rows
    → list_all (comes_before a) rows ≡ true → list_all (is_earlier a) rows ≡ true
all-earlier a [] h e = refl
all-earlier a (b ∷ rows) h e =
    let p = and_parts (comes_before a b) (list_all (comes_before a) rows) e in
    and_from (is_earlier a b) (list_all (is_earlier a) rows) (earlier-comes a b (sym h.0) ∙ p.0) (all-earlier a rows h.1
    p.1)

alike : (l : List Field) (a : Numbered) (rows : List Numbered) → a.row.labels ≡ l
    → AllByRecursion (λ (n : Numbered). n.row.labels ≡ l) rows
    → AllByRecursion (λ (n : Numbered). n.row.labels ≡ a.row.labels) rows
alike l a [] e h = tt
alike l a (b ∷ rows) e h = (h.0 ∙ sym e, alike l a rows e h.1)

stream-rows : (l : List Field) (rows : List Numbered) → AllByRecursion (λ (n : Numbered). n.row.labels ≡ l) rows
    → are_ordered rows ≡ true → are_in_order rows ≡ true
stream-rows l [] h e = refl
stream-rows l (a ∷ rows) h e =
    let p = and_parts (list_all (comes_before a) rows) (are_ordered rows) e in
    and_from (list_all (is_earlier a) rows) (are_in_order rows) (all-earlier a rows (alike l a rows h.0 h.1) p.0)
    (stream-rows l rows h.1 p.1)

block-rows : (rows : List Numbered) → IsBlock rows → are_in_order rows ≡ true
block-rows rows h = stream-rows (labels_of rows) rows h.stream h.ordered

-- ---- rows behind others

last-is : (x last : Numbered) → slice_get (x ∷ []) (length (x ∷ []) - 1) ≡ Some last → x ≡ last
last-is x last e = cc

-- rows in order, the last of which is earlier than the first of others in order
seam : (rows : List Numbered) (last b : Numbered) (others : List Numbered) → are_in_order rows ≡ true
    → are_in_order (b ∷ others) ≡ true → slice_get rows (length rows - 1) ≡ Some last → is_earlier last b ≡ true
    → are_in_order (rows ++ b ∷ others) ≡ true
seam [] last b others e f is h = f
seam (x ∷ []) last b others e f is h =
    let p = and_parts (list_all (is_earlier b) others) (are_in_order others) f in
    let first : is_earlier x b ≡ true = ap (λ (n : Numbered). is_earlier n b) (last-is x last is) ∙ h in
    and_from (list_all (is_earlier x) (b ∷ others)) (are_in_order (b ∷ others))
    (and_from (is_earlier x b) (list_all (is_earlier x) others) first (earlier-all x b others first p.0)) f
seam (x ∷ y ∷ rows) last b others e f is h =
    let p = and_parts (list_all (is_earlier x) (y ∷ rows)) (are_in_order (y ∷ rows)) e in
    let q = and_parts (is_earlier x y) (list_all (is_earlier x) rows) p.0 in
    let whole : suc (suc (length rows)) - 1 ≡ suc (length rows) = omega arith in
    let rest : suc (length rows) - 1 ≡ length rows = omega arith in
    let ends : slice_get (y ∷ rows) (length (y ∷ rows) - 1) ≡ Some last = ap (slice_get (y ∷ rows)) rest
    ∙ sym (ap (slice_get (x ∷ y ∷ rows)) whole) ∙ is in
    let later = seam (y ∷ rows) last b others p.1 f ends h in
    let r = and_parts (list_all (is_earlier y) (rows ++ b ∷ others)) (are_in_order (rows ++ b ∷ others)) later in
    and_from (list_all (is_earlier x) (y ∷ (rows ++ b ∷ others))) (are_in_order (y ∷ (rows ++ b ∷ others)))
    (and_from (is_earlier x y) (list_all (is_earlier x) (rows ++ b ∷ others)) q.0 (earlier-all x y (rows ++ b ∷ others)
    q.0 r.0)) later

-- ---- blocks that follow one another

-- the same, block by block
abbrev AreChained : List (List Numbered) → Type 0
AreChained [] = Unit {0}
AreChained (a ∷ []) = Unit {0}
AreChained (a ∷ b ∷ blocks) = IsFollowedBy a b × AreChained (b ∷ blocks)

chained : (blocks : List (List Numbered)) → AreFollowed blocks → AreChained blocks
chained [] h = tt
chained (a ∷ []) h = tt
chained (a ∷ b ∷ blocks) h = (
  h 0 [] (omega arith),
  chained (b ∷ blocks) (λ k d lt.
      let next : suc k + 1 ≡ suc (k + 1) = omega arith in
      subst (λ (n : ℕ). IsFollowedBy (get_or (b ∷ blocks) k d) (get_or (a ∷ b ∷ blocks) n d)) next (h (suc k) d (omega (arith, lt)))),
)

begins-with : (x : Numbered) (rows : List Numbered) (first : Numbered) → slice_get (x ∷ rows) 0 ≡ Some first → x ≡ first
begins-with x rows first e = cc

chain-order : (blocks : List (List Numbered)) → AllByRecursion IsBlock blocks → AreChained blocks
    → are_in_order (rows_in_blocks blocks) ≡ true
chain-order [] each h = refl
chain-order (a ∷ []) each h = ap are_in_order (append-nil a) ∙ block-rows a each.0
chain-order (a ∷ [] ∷ blocks) each h = absurd (omega (arith, each.1.0.some))
chain-order (a ∷ (x ∷ rows) ∷ blocks) each h =
    let first : is_earlier h.0.last x ≡ true = ap (is_earlier h.0.last) (begins-with x rows h.0.first h.0.begins)
    ∙ h.0.earlier in
    seam a h.0.last x (rows ++ rows_in_blocks blocks) (block-rows a each.0) (chain-order ((x ∷ rows) ∷ blocks) each.1 h.1)
    h.0.ends first

chain-full : (blocks : List (List Numbered)) → AllByRecursion IsBlock blocks → AreChained blocks → AreFull blocks []
chain-full [] each h = tt
chain-full (a ∷ []) each h = (tt, tt)
chain-full (a ∷ [] ∷ blocks) each h = absurd (omega (arith, each.1.0.some))
chain-full (a ∷ (x ∷ rows) ∷ blocks) each h =
    (ap (has_room a) (begins-with x rows h.0.first h.0.begins) ∙ h.0.full, chain-full ((x ∷ rows) ∷ blocks) each.1 h.1)

pub followed-filled : (blocks : List (List Numbered)) → AllByRecursion IsBlock blocks → AreFollowed blocks
    → AreFilled blocks (rows_in_blocks blocks)
followed-filled blocks each h = record {
  all = refl;
  each = each;
  full = chain-full blocks each (chained blocks h);
}

pub followed-part : (blocks : List (List Numbered)) → AllByRecursion IsBlock blocks → AreFollowed blocks
    → ArePartRows (rows_in_blocks blocks) → IsPart (rows_in_blocks blocks)
followed-part blocks each h rules =
    record { rules = rules; ordered = chain-order blocks each (chained blocks h) }

-- bytes that are a head and blocks that follow one another
pub blocks-written : (blocks : List (List Numbered)) (made : List Numbered) (bytes : List ℕ) → made ≡ rows_in_blocks blocks
    → IsPart (rows_in_blocks blocks) → AreFilled blocks (rows_in_blocks blocks) → list_all is_sized blocks ≡ true
    → length blocks < 2 ^ 32 → bytes ≡ head_bytes ++ blocks_bytes blocks → part_writing made ≡ Some bytes
blocks-written blocks made bytes is part filled sized few e =
    ap part_writing is ∙ is-written (rows_in_blocks blocks) (written-part blocks (rows_in_blocks blocks) part filled sized
    few) ∙ ap (λ (l : List ℕ). Some l) (part-bytes blocks (rows_in_blocks blocks) filled ∙ sym e)

-- ---- room

-- a row of another stream
pub other-stream : (block : List Numbered) (row : Numbered) → (labels_of block ≡ row.row.labels → ⊥)
    → has_room block row ≡ false
unfolding has_room
other-stream block row other = by (same_fields row.row.labels (labels_of block)) refl
  where
    by : (t : Bool) → same_fields row.row.labels (labels_of block) ≡ t → (t && is_within (block ++ row ∷ [])) ≡ false
    by true e = absurd (other (sym (same-are row.row.labels (labels_of block) e)))
    by false e = refl

no-room : (block : List Numbered) (row : Numbered) → is_within (block ++ row ∷ []) ≡ false → has_room block row ≡ false
unfolding has_room
no-room block row e = second_false (same_fields row.row.labels (labels_of block)) (is_within (block ++ row ∷ [])) e

-- a block with as many rows as it may have
pub most-rows : (block : List Numbered) (row : Numbered) → 4096 ≤ length block → has_room block row ≡ false
most-rows block row le =
    let many : nat_le (length (block ++ row ∷ [])) 4096 ≡ false = lt-leb (length (block ++ row ∷ [])) 4096 (omega (
      arith,
      length-append block (row ∷ []),
      le,
    )) in
    no-room block row (ap (λ (t : Bool). t && (nat_le (length (names_of (block ++ row ∷ []))) 2000 && nat_le (length (block
    ++ row ∷ []) * length (names_of (block ++ row ∷ []))) 1_048_576)) many)

-- a limit would be passed
pub limit-passed : (block : List Numbered) (row : Numbered) (columns : ℕ) → columns ≡ length (names_of (block ++ row ∷ []))
    → (nat_le columns 2000 && nat_le ((length block + 1) * columns) 1_048_576) ≡ false → has_room block row ≡ false
limit-passed block row columns is e =
    let count : length (block ++ row ∷ []) ≡ length block + 1 = omega (arith, length-append block (row ∷ [])) in
    no-room block row (second_false (nat_le (length (block ++ row ∷ [])) 4096) (nat_le (length (names_of (block
    ++ row ∷ []))) 2000 && nat_le (length (block ++ row ∷ []) * length (names_of (block ++ row ∷ []))) 1_048_576) (ap (λ (n
    : ℕ). nat_le (length (names_of (block ++ row ∷ []))) 2000 && nat_le (n * length (names_of (block
    ++ row ∷ []))) 1_048_576) count
    ∙ ap (λ (n : ℕ). nat_le n 2000 && nat_le ((length block + 1) * n) 1_048_576) (sym is) ∙ e))

-- ---- names

abbrev pub now_of : Bor (List ℕ) → List ℕ
now_of t = t.now

abbrev all_names : List Numbered → List (List ℕ)
all_names rows = flat_map (λ numbered. names_in numbered.row.fields) rows

names-push : (rows : List Numbered) (n : Numbered) → names_of (rows ++ n ∷ []) ≡ put_names (names_of rows) n.row.fields
names-push rows n =
    ap distinct (flat_map-append (λ (numbered : Numbered). names_in numbered.row.fields) rows (n ∷ []))
    ∙ fold-append (insert_key bytes_cmp) [] (all_names rows) (all_names (n ∷ []))
    ∙ ap (fold (insert_key bytes_cmp) (names_of rows)) (append-nil (names_in n.row.fields))

-- names that are put in their order are as they are
names-again : (rows : List Numbered) → distinct (names_of rows) ≡ names_of rows
names-again rows =
    same-rising (distinct (names_of rows)) (names_of rows) (distinct-rising (names_of rows)) (names-rising rows) (λ text.
    distinct-listed text (names_of rows))

-- the names of the columns of a block
heads-named : (rows : List Numbered) (names : List (List ℕ))
    → map (λ (column : NamedFilter). column.0) (map (filter_named rows) names) ≡ names
heads-named rows [] = refl
heads-named rows (n ∷ names) = ap (λ (l : List (List ℕ)). n ∷ l) (heads-named rows names)

pub block-names : (rows : List Numbered) (head : Outline) → head ≡ outline_of rows
    → map (λ (column : NamedFilter). column.0) head.columns ≡ names_of rows
block-names rows head e =
    ap (λ (o : Outline). map (λ (column : NamedFilter). column.0) o.columns) e ∙ heads-named rows (names_of rows)

-- the names of the columns and those of the fields of one row more
pub names-with : (rows : List Numbered) (n : Numbered) (columns old new : List (List ℕ)) → columns ≡ names_of rows
    → old ≡ fold (insert_key bytes_cmp) [] columns → new ≡ put_names old n.row.fields
    → new ≡ names_of (rows ++ n ∷ [])
names-with rows n columns old new named first second =
    second ∙ ap (λ (l : List (List ℕ)). put_names l n.row.fields) (first ∙ ap distinct named ∙ names-again rows)
    ∙ sym (names-push rows n)

pub put-is : (keys new : List (Bor (List ℕ))) (key : Bor (List ℕ))
    → new ≡ insert_key (λ x y. bytes_cmp (now_of x) (now_of y)) keys key
    → map now_of new ≡ insert_key bytes_cmp (map now_of keys) (now_of key)
put-is keys new key e = ap (map now_of) e ∙ map-put now_of keys key

-- one name more is put
pub name-put : (first old new names : List (List ℕ)) (i : ℕ) (name : List ℕ) → slice_get names i ≡ Some name
    → old ≡ fold (insert_key bytes_cmp) first (take i names) → new ≡ insert_key bytes_cmp old name
    → new ≡ fold (insert_key bytes_cmp) first (take (i + 1) names)
name-put first old new names i name e before put =
    let taken : take (i + 1) names ≡ take i names ++ name ∷ [] = take_more names i name (slice_get_within names i name e)
    ∙ ap (λ (n : List ℕ). take i names ++ n ∷ []) (get_or_from_slice_get names i name name e) in
    put ∙ ap (λ (l : List (List ℕ)). insert_key bytes_cmp l name) before
    ∙ sym (fold_push (insert_key bytes_cmp) first (take i names) name)
    ∙ ap (fold (insert_key bytes_cmp) first) (sym taken)

-- ---- places

-- what is there, whatever stands for what is not
pub get-any : {X : Type 0} (xs : List X) (i : ℕ) (d e : X) → i < length xs → get_or xs i d ≡ get_or xs i e
get-any [] i d e lt = absurd (omega (arith, lt))
get-any (x ∷ xs) zero d e lt = refl
get-any (x ∷ xs) (suc i) d e lt = get-any xs i d e (omega (arith, lt))

-- ---- the numbers of the rows

-- one row more
pub number-more : (rows : List Numbered) (i : ℕ) (key : ℤ × ℕ × ℕ) → slice_get (map key_in rows) i ≡ Some key
    → map number_of (take (i + 1) rows) ≡ map number_of (take i rows) ++ (key.1, key.2) ∷ []
number-more [] i key e = absurd cc
number-more (n ∷ rows) zero key e = let k : key_in n ≡ key = cc in ap (λ (x : ℤ × ℕ × ℕ). (x.1, x.2) ∷ []) k
number-more (n ∷ rows) (suc i) key e =
    let next : suc i + 1 ≡ suc (i + 1) = omega arith in
    ap (λ (k : ℕ). map number_of (take k (n ∷ rows))) next
    ∙ ap (λ (l : List (ℕ × ℕ)). number_of n ∷ l) (number-more rows i key e)

pub numbers-more : (blocks : List (List Numbered)) (i : ℕ) (block : List Numbered) → i < length blocks
    → block ≡ get_or blocks i block
    → map number_of (rows_in_blocks (take (i + 1) blocks))
    ≡ map number_of (rows_in_blocks (take i blocks)) ++ map number_of block
numbers-more blocks i block lt is =
    ap (λ (l : List (List Numbered)). map number_of (rows_in_blocks l)) (take_more blocks i block lt ∙ ap (λ (b : List
    Numbered). take i blocks ++ b ∷ []) (sym is))
    ∙ ap (map number_of) (flat_map-append (λ (b : List Numbered). b) (take i blocks) (block ∷ []))
    ∙ map-append number_of (rows_in_blocks (take i blocks)) (block ++ [])
    ∙ ap (λ (l : List Numbered). map number_of (rows_in_blocks (take i blocks)) ++ map number_of l) (append-nil block)

-- there is a row where there is a block
pub some-rows : (blocks : List (List Numbered)) → 0 < length blocks → AllByRecursion IsBlock blocks
    → 0 < length (rows_in_blocks blocks)
some-rows [] some each = absurd (omega (arith, some))
some-rows ([] ∷ blocks) some each = absurd (omega (arith, each.0.some))
some-rows ((x ∷ rows) ∷ blocks) some each = omega arith

-- ---- blocks as bytes

pub block-spelled : (block : List Numbered) (size : ℕ) (bytes rest window after : List ℕ)
    → bytes ≡ to_le_bytes w32 size ++ rest → window ≡ take size rest → after ≡ drop size rest → length window ≡ size
    → window ≡ block_bytes block → bytes ≡ sized_block_bytes block ++ after
unfolding sized_block_bytes
block-spelled block size bytes rest window after first front back len is =
    let parts : rest ≡ block_bytes block ++ after = sym (take-append-drop size rest)
    ∙ ap (λ (l : List ℕ). l ++ drop size rest) (sym front ∙ is) ∙ ap (λ (l : List ℕ). block_bytes block ++ l) (sym back) in
    let count : size ≡ length (block_bytes block) = sym len ∙ ap length is in
    first ∙ ap (λ (l : List ℕ). to_le_bytes w32 size ++ l) parts
    ∙ ap (λ (n : ℕ). to_le_bytes w32 n ++ (block_bytes block ++ after)) count
    ∙ sym (append_assoc (to_le_bytes w32 (length (block_bytes block))) (block_bytes block) after)

pub blocks-spelled : (blocks : List (List Numbered)) (count : ℕ) (bytes rest after : List ℕ) → bytes ≡ head_bytes ++ rest
    → rest ≡ to_le_bytes w32 count ++ after → after ≡ flat_map sized_block_bytes blocks → length blocks ≡ count
    → bytes ≡ head_bytes ++ blocks_bytes blocks
unfolding blocks_bytes
blocks-spelled blocks count bytes rest after first number all len =
    first ∙ ap (λ (l : List ℕ). head_bytes ++ l) (number ∙ ap (λ (l : List ℕ). to_le_bytes w32 count ++ l) all
    ∙ ap (λ (n : ℕ). to_le_bytes w32 n ++ flat_map sized_block_bytes blocks) (sym len))

pub bytes-more : (blocks : List (List Numbered)) (block : List Numbered) (bytes rest after : List ℕ)
    → bytes ≡ flat_map sized_block_bytes blocks ++ rest → rest ≡ sized_block_bytes block ++ after
    → bytes ≡ flat_map sized_block_bytes (blocks ++ block ∷ []) ++ after
bytes-more blocks block bytes rest after first next =
    first ∙ ap (λ (l : List ℕ). flat_map sized_block_bytes blocks ++ l) next
    ∙ sym (append_assoc (flat_map sized_block_bytes blocks) (sized_block_bytes block) after)
    ∙ ap (λ (l : List ℕ). (flat_map sized_block_bytes blocks ++ l) ++ after) (sym (append-nil (sized_block_bytes block)))
    ∙ ap (λ (l : List ℕ). l ++ after) (sym (flat_map-append sized_block_bytes blocks (block ∷ [])))

pub sized-more : (blocks : List (List Numbered)) (block : List Numbered) → list_all is_sized blocks ≡ true
    → is_sized block ≡ true → list_all is_sized (blocks ++ block ∷ []) ≡ true
sized-more blocks block all one =
    list_all-append is_sized blocks (block ∷ [])
    ∙ and_from (list_all is_sized blocks) (list_all is_sized (block ∷ [])) all (and_from (is_sized block) true one refl)
