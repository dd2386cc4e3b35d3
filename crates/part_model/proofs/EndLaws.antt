-- Where the first block of rows ends.
use Rattle.std.proofs.Common.{◌≡◌, ℕ, ◌+◌, ◌*◌, ◌<◌, Bool, true, false, List, [], ◌∷◌, ◌++◌}
use Rattle.std.proofs.Common.{length, get_or, take, drop, refl, sym, ap, subst, ◌∙◌, arith}
use Rattle.std.specs.Prelude.{◌&&◌, nat_le}
use Rattle.std.specs.List.{AllByRecursion, fold}
use Rattle.std.proofs.lemmas.Bool.{le-leb, lt-leb}
use Rattle.std.proofs.lemmas.List.{append-nil, drop_all, drop_more, length-take, take_more}
use Rattle.std.specs.BTreeSet.{insert_key}
use Rattle.byte_format.proofs.Cases.{second_false}
use Rattle.log_model.specs.Field.{Field, bytes_cmp}
use Rattle.log_model.specs.History.{Numbered}
use Rattle.log_model.specs.Row.{IsRow}
use Rattle.block_model.specs.Columns.{names_in, names_of, put_names}
use Rattle.block_model.specs.Distinct.{distinct}
use Rattle.block_model.proofs.NameLaws.{names-again, names-more, names-rising}
use Rattle.block_format.specs.Reading.{same_fields}
use Rattle.block_format.specs.Rows.{labels_of}
use Rattle.part_model.specs.Ends.{EndsBlock}
use Rattle.part_model.specs.Filling.{IsFull, has_room, is_within}
use Rattle.part_model.proofs.FillLaws.{all-push, first-labels, same-are}
use Rattle.part_model.proofs.RowLaws.{one-within}

abbrev IsOfStream : List Numbered → Numbered → Type 0
IsOfStream rows n = n.row.labels ≡ labels_of rows

first-false : (a b : Bool) → a ≡ false → (a && b) ≡ false
first-false true b e = absurd cc
first-false false b e = refl

no-room : (block : List Numbered) (row : Numbered) → is_within (block ++ row ∷ []) ≡ false → has_room block row ≡ false
unfolding has_room
no-room block row e = second_false (same_fields row.row.labels (labels_of block)) (is_within (block ++ row ∷ [])) e

-- what is known of the first rows, which are in one block
pub record AreOne (rows : List Numbered) (count : ℕ) : Type 0 where
  pub some : 0 < count
  pub within : is_within (take count rows) ≡ true
  pub stream : AllByRecursion (λ (n : Numbered). n.row.labels ≡ labels_of rows) (take count rows)

ends-at : (rows : List Numbered) (i : ℕ) (row : Numbered) → AreOne rows i → i < length rows → row ≡ get_or rows i row
    → has_room (take i rows) row ≡ false → EndsBlock rows i
ends-at rows i row one lt is full =
    let rest : drop i rows ≡ row ∷ drop (i + 1) rows = drop_more rows i row lt
    ∙ ap (λ (r : Numbered). r ∷ drop (i + 1) rows) (sym is) in
    record {
      some = one.some;
      there = omega (arith, lt);
      within = one.within;
      stream = one.stream;
      full = subst (IsFull (take i rows)) (sym rest) full;
    }

next-rows : (rows : List Numbered) (i : ℕ) (row : Numbered) → i < length rows → row ≡ get_or rows i row
    → take (i + 1) rows ≡ take i rows ++ row ∷ []
next-rows rows i row lt is = take_more rows i row lt ∙ ap (λ (r : Numbered). take i rows ++ r ∷ []) (sym is)

-- there are 4,096 rows
pub ends-full : (rows : List Numbered) (i : ℕ) (row : Numbered) → AreOne rows i → i < length rows
    → row ≡ get_or rows i row → i ≡ 4096 → EndsBlock rows i
ends-full rows i row one lt is full =
    let more = next-rows rows i row lt is in
    let count : length (take i rows ++ row ∷ []) ≡ 4097 = omega (
      arith,
      ap length more,
      length-take (i + 1) rows,
      lt,
      full,
    ) in
    ends-at rows i row one lt is (no-room (take i rows) row (first-false (nat_le (length (take i rows ++ row ∷ [])) 4096) _
    (lt-leb (length (take i rows ++ row ∷ [])) 4096 (omega (arith, count)))))

-- the next row is of another stream
pub ends-stream : (rows : List Numbered) (i : ℕ) (row first : Numbered) → AreOne rows i → i < length rows
    → row ≡ get_or rows i row → first ≡ get_or rows 0 first → (first.row.labels ≡ row.row.labels → ⊥) → EndsBlock rows i
unfolding has_room
ends-stream rows i row first one lt is is_first other =
    ends-at rows i row one lt is (by (same_fields row.row.labels (labels_of (take i rows))) refl)
  where
    start : (l : List Numbered) → 0 < length l → first ≡ get_or l 0 first → labels_of l ≡ first.row.labels
    start [] some e = absurd (omega (arith, some))
    start (a ∷ l) some e = ap (λ (n : Numbered). n.row.labels) (sym e)

    labels : labels_of (take i rows) ≡ first.row.labels
    labels = first-labels rows i one.some ∙ start rows (omega (arith, lt)) is_first

    by : (t : Bool) → same_fields row.row.labels (labels_of (take i rows)) ≡ t → has_room (take i rows) row ≡ false
    by true e = absurd (other (sym (same-are row.row.labels (labels_of (take i rows)) e ∙ labels)))
    by false e = rw e refl

-- the row would pass a limit
pub limits-are : (rows : List Numbered) (i : ℕ) (columns : ℕ) → i < length rows → i < 4096
    → columns ≡ length (names_of (take (i + 1) rows))
    → is_within (take (i + 1) rows) ≡ (nat_le columns 2000 && nat_le ((i + 1) * columns) 1_048_576)
limits-are rows i columns lt few e =
    let count : length (take (i + 1) rows) ≡ i + 1 = omega (arith, length-take (i + 1) rows, lt) in
    ap (λ (n : ℕ). nat_le n 4096 && (nat_le (length (names_of (take (i + 1) rows))) 2000 && nat_le (n * length (names_of
    (take (i + 1) rows))) 1_048_576)) count
    ∙ ap (λ (t : Bool). t && (nat_le (length (names_of (take (i + 1) rows))) 2000 && nat_le ((i + 1) * length (names_of
    (take (i + 1) rows))) 1_048_576)) (le-leb (i + 1) 4096 (omega (arith, few)))
    ∙ ap (λ (n : ℕ). nat_le n 2000 && nat_le ((i + 1) * n) 1_048_576) (sym e)

pub ends-limit : (rows : List Numbered) (i : ℕ) (row : Numbered) → AreOne rows i → i < length rows
    → row ≡ get_or rows i row → is_within (take (i + 1) rows) ≡ false → EndsBlock rows i
ends-limit rows i row one lt is e =
    ends-at rows i row one lt is (no-room (take i rows) row (ap is_within (sym (next-rows rows i row lt is)) ∙ e))

-- there is no other row
pub ends-last : (rows : List Numbered) (i : ℕ) → AreOne rows i → i ≡ length rows → EndsBlock rows (length rows)
ends-last rows i one is =
    let end : drop (length rows) rows ≡ [] = drop_all (length rows) rows (omega arith) in
    let all = subst (AreOne rows) is one in
    record {
      some = all.some;
      there = omega arith;
      within = all.within;
      stream = all.stream;
      full = subst (IsFull (take (length rows) rows)) (sym end) tt;
    }

-- ---- the first row

pub first-one : (rows : List Numbered) (row : Numbered) → 0 < length rows → row ≡ get_or rows 0 row → IsRow row.row
    → AreOne rows 1
first-one [] row some is h = absurd (omega (arith, some))
first-one (a ∷ rows) row some is h = record {
  some = omega arith;
  within = one-within a (subst (λ (n : Numbered). IsRow n.row) is h);
  stream = (refl, tt);
}

pub first-names : (rows : List Numbered) (row : Numbered) (names : List (List ℕ)) (f : List Field)
    → 0 < length rows → row ≡ get_or rows 0 row → f ≡ row.row.fields → names ≡ put_names [] f
    → names ≡ names_of (take 1 rows)
first-names [] row names f some is e n = absurd (omega (arith, some))
first-names (a ∷ rows) row names f some is e n =
    n ∙ ap (put_names []) (e ∙ ap (λ (r : Numbered). r.row.fields) is)
    ∙ ap distinct (sym (append-nil (names_in a.row.fields)))

-- ---- one row more

pub one-more : (rows : List Numbered) (i : ℕ) (row first : Numbered) → AreOne rows i → i < length rows
    → row ≡ get_or rows i row → first ≡ get_or rows 0 first → first.row.labels ≡ row.row.labels
    → is_within (take (i + 1) rows) ≡ true → AreOne rows (i + 1)
one-more rows i row first one lt is is_first same within = record {
  some = omega arith;
  within = within;
  stream = subst (AllByRecursion (IsOfStream rows)) (sym (next-rows rows i row lt is)) (all-push (IsOfStream rows) (take i
      rows) row one.stream (sym same ∙ sym (start rows (omega (arith, lt)) is_first)));
}
  where
    start : (l : List Numbered) → 0 < length l → first ≡ get_or l 0 first → labels_of l ≡ first.row.labels
    start [] some e = absurd (omega (arith, some))
    start (a ∷ l) some e = ap (λ (n : Numbered). n.row.labels) (sym e)

pub names-next : (rows : List Numbered) (i : ℕ) (row : Numbered) (names new : List (List ℕ)) (fields : List Field)
    → i < length rows → row ≡ get_or rows i row → fields ≡ row.row.fields → names ≡ names_of (take i rows)
    → new ≡ put_names names fields → new ≡ names_of (take (i + 1) rows)
names-next rows i row names new fields lt is f n put =
    put ∙ ap (λ (l : List (List ℕ)). put_names l fields) n ∙ ap (put_names (names_of (take i rows))) f
    ∙ sym (names-more rows i row lt is)

pub put-last : (rows : List Numbered) (i : ℕ) (names new : List (List ℕ)) (fields : List Field)
    → names ≡ names_of (take i rows) → new ≡ put_names names fields → put_names new fields ≡ new
put-last rows i names new fields n put =
    let both : new ≡ put_names (names_of (take i rows)) fields = put ∙ ap (λ (l : List (List ℕ)). put_names l fields) n in
    ap (λ (l : List (List ℕ)). put_names l fields) both
    ∙ names-again (names_of (take i rows)) fields (names-rising (take i rows))
    ∙ sym both

pub put-first : (names : List (List ℕ)) (fields : List Field) → names ≡ put_names [] fields
    → put_names names fields ≡ names
put-first names fields put = put-last [] 0 [] names fields refl put

-- the names of fields that have those of others
pub put-same : (names : List (List ℕ)) (fields last : List Field) → names_in fields ≡ names_in last
    → put_names names last ≡ names → names ≡ put_names names fields
put-same names fields last same e = sym e ∙ ap (fold (insert_key bytes_cmp) names) (sym same)
