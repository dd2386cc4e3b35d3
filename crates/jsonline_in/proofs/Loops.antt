-- Reading items one after another, as a loop does, and what becomes of each.
use Rattle.std.proofs.Common.{◌≡◌, ℕ, ◌<◌, List, [], ◌∷◌, ◌++◌, length, Option, Some, None, Result, Ok, Err, refl}
use Rattle.std.proofs.Common.{sym, ap, ◌∙◌, arith}
use Rattle.std.proofs.lemmas.List.{length-append}
use Rattle.log_model.specs.Value.{Kind, closing, Label, Value, Items, nothing}
use Rattle.jsonline_in.specs.Reading.{after_space, past, Fault, stuck, Reader, ◌>>=◌, gives, fails, chosen_by, behind}
use Rattle.jsonline_in.specs.Reading.{expect, some_of, item_at, other_at, put_item, others_at, first_at, items_at}
use Rattle.jsonline_in.specs.Reading.{nested_at, turn}
use Rattle.jsonline_in.specs.Clauses.{mapped}
use Rattle.jsonline_in.proofs.Good.{reads_of, past_takes}
use Rattle.jsonline_in.proofs.Steps.{good_space}
use Rattle.jsonline_in.proofs.Decoding.{done, expect_past, expect_none}
use Rattle.jsonline_in.proofs.Values.{good_nested, good_item, IsItem, other_shrinks}
use Rattle.jsonline_in.proofs.Turns.{unrolled}

abbrev pub put_all : List (Label × Value) → Items → Items
put_all [] more = more
put_all (x ∷ xs) more = put_item x (put_all xs more)

abbrev pub put_prefix : List (Label × Value) → Items × List ℕ → Result (Items × List ℕ) Fault
put_prefix prefix x = Ok (put_all prefix x.0, x.1)

module _ (depth : ℕ) (kind : Kind) where
  abbrev pub inner : Kind → Reader Value
  inner = nested_at depth

  abbrev pub item_of : Reader (Label × Value)
  item_of = item_at inner kind

  pub turned : (bytes : List ℕ) → others_at inner kind bytes ≡
      (other_at inner kind bytes >>= turn put_item nothing (others_at inner kind))
  unfolding others_at
  turned bytes = unrolled put_item nothing (other_at inner kind) (other_shrinks depth inner (good_nested depth) kind)
      bytes

  abbrev pub goes_on : Result (Option (Label × Value) × List ℕ) Fault → Result (Items × List ℕ) Fault
  goes_on r = r >>= turn put_item nothing (others_at inner kind)

  abbrev by_comma : List ℕ → Option (List ℕ) → Result (Option (Label × Value) × List ℕ) Fault
  by_comma here o = chosen_by (λ rest. some_of item_of (after_space rest)) (behind (closing kind) (gives None)) here o

  -- what a reader of one more item gives
  abbrev pub one_by : Result ((Label × Value) × List ℕ) Fault → Result (Items × List ℕ) Fault
  one_by read = read >>= λ x. others_at inner kind x.1 >>= put_prefix (x.0 ∷ [])

  pub other_read : (bytes here next : List ℕ) → here ≡ after_space bytes → past 44 here ≡ Some next
      → others_at inner kind bytes ≡ one_by (item_of (after_space next))
  unfolding other_at
  other_read bytes here next e f =
      turned bytes ∙ ap (λ (t : List ℕ). goes_on (by_comma t (past 44 t))) (sym e)
      ∙ ap (λ (o : Option (List ℕ)). goes_on (by_comma here o)) f ∙ same (item_of (after_space next))
    where
      same : (r : Result ((Label × Value) × List ℕ) Fault) → goes_on (r >>= λ x. Ok (Some x.0, x.1)) ≡ one_by r
      same (Ok x) = refl
      same (Err fault) = refl

  abbrev pub by_closing : List ℕ → Option (List ℕ) → Result (Option (Label × Value) × List ℕ) Fault
  by_closing here o = chosen_by (gives None) fails here o

  pub end_read : (bytes here : List ℕ) → here ≡ after_space bytes → past 44 here ≡ None → (o : Option (List ℕ))
      → past (closing kind) here ≡ o → others_at inner kind bytes ≡ goes_on (by_closing here o)
  unfolding other_at
  end_read bytes here e f o g =
      turned bytes ∙ ap (λ (t : List ℕ). goes_on (by_comma t (past 44 t))) (sym e)
      ∙ ap (λ (o : Option (List ℕ)). goes_on (by_comma here o)) f
      ∙ ap (λ (o : Option (List ℕ)). goes_on (by_closing here o)) g

  -- ---- so far

  -- What is left makes the whole, with the items before it.
  pub record Continued {X : Type 0} (whole left : Items → X) (rest : List ℕ) (total : Result (Items × List ℕ) Fault) :
      Type 0 where
    pub prefix : List (Label × Value)
    pub means : (more : Items) → whole (put_all prefix more) ≡ left more
    pub reached : total ≡ (others_at inner kind rest >>= put_prefix prefix)

  put_twice : (a b : List (Label × Value)) (more : Items) → put_all (a ++ b) more ≡ put_all a (put_all b more)
  put_twice [] b more = refl
  put_twice (x ∷ a) b more = ap (put_item x) (put_twice a b more)

  prefix_more : (a b : List (Label × Value)) (r : Result (Items × List ℕ) Fault)
      → ((r >>= put_prefix b) >>= put_prefix a) ≡ (r >>= put_prefix (a ++ b))
  prefix_more a b (Ok x) = ap (λ (t : Items). Ok (t, x.1)) (sym (put_twice a b x.0))
  prefix_more a b (Err fault) = refl

  -- ---- the first item

  abbrev by_empty : List ℕ → Option (List ℕ) → Result (Items × List ℕ) Fault
  by_empty here o = chosen_by (gives nothing) (first_at inner kind) here o

  module _ (bytes here : List ℕ) (space : here ≡ after_space bytes) where
    pub no_items : (end : List ℕ) → past (closing kind) here ≡ Some end → items_at inner kind bytes ≡ Ok (nothing, end)
    unfolding items_at
    no_items end e = ap (λ (t : List ℕ). by_empty t (past (closing kind) t)) (sym space) ∙ ap (by_empty here) e

    pub some_items : past (closing kind) here ≡ None → items_at inner kind bytes ≡ first_at inner kind here
    unfolding items_at
    some_items e = ap (λ (t : List ℕ). by_empty t (past (closing kind) t)) (sym space) ∙ ap (by_empty here) e

    pub no_first : (fault : Fault) → past (closing kind) here ≡ None → item_of here ≡ Err fault
        → items_at inner kind bytes ≡ Err fault
    unfolding first_at
    no_first fault e f = some_items e ∙ ap (λ (r : Result ((Label × Value) × List ℕ) Fault). r >>= λ x. others_at
        inner kind x.1 >>= λ more. Ok (put_item x.0 more.0, more.1)) f

    pub started : {X : Type 0} (whole left : Items → X) (x : Label × Value) (rest : List ℕ)
        → past (closing kind) here ≡ None → item_of here ≡ Ok (x, rest)
        → ((more : Items) → whole (put_item x more) ≡ left more)
        → Continued whole left rest (items_at inner kind bytes)
    unfolding first_at
    started whole left x rest e f means = record {
      prefix = x ∷ [];
      means = means;
      reached = some_items e ∙ ap (λ (r : Result ((Label × Value) × List ℕ) Fault). r >>= λ x. others_at inner kind
          x.1 >>= λ more. Ok (put_item x.0 more.0, more.1)) f;
    }

  -- ---- the others

  module _ {X : Type 0} (whole left : Items → X) (rest : List ℕ) (total : Result (Items × List ℕ) Fault)
      (c : Continued whole left rest total) (here : List ℕ) (space : here ≡ after_space rest) where
    reached_by : (r : Result (Items × List ℕ) Fault) → others_at inner kind rest ≡ r
        → total ≡ (r >>= put_prefix c.prefix)
    reached_by r e = c.reached ∙ ap (λ (s : Result (Items × List ℕ) Fault). s >>= put_prefix c.prefix) e

    pub no_other : (next : List ℕ) (fault : Fault) → past 44 here ≡ Some next → item_of (after_space next) ≡ Err fault
        → total ≡ Err fault
    no_other next fault e f = reached_by (Err fault) (other_read rest here next space e ∙ ap one_by f)

    pub goes_on_to : (left' : Items → X) (next : List ℕ) (x : Label × Value) (after : List ℕ)
        → past 44 here ≡ Some next → item_of (after_space next) ≡ Ok (x, after)
        → ((more : Items) → left (put_item x more) ≡ left' more) → Continued whole left' after total
    goes_on_to left' next x after e f means = record {
      prefix = c.prefix ++ x ∷ [];
      means = λ more. ap whole (put_twice c.prefix (x ∷ []) more) ∙ c.means (put_item x more) ∙ means more;
      reached = reached_by (one_by (item_of (after_space next))) (other_read rest here next space e)
          ∙ ap (λ (r : Result ((Label × Value) × List ℕ) Fault). one_by r >>= put_prefix c.prefix) f
          ∙ prefix_more c.prefix (x ∷ []) (others_at inner kind after);
    }

    pub not_closed : (fault : Fault) → past 44 here ≡ None → expect (closing kind) here ≡ Err fault → total ≡ Err fault
    not_closed fault e f =
        let n = expect_none (closing kind) here fault f in
        reached_by (Err (stuck (length here))) (end_read rest here space e None n.0)
        ∙ ap (λ (g : Fault). Err g) (sym n.1)

    pub closed : (end : List ℕ) (y : X) → past 44 here ≡ None → expect (closing kind) here ≡ done end
        → y ≡ left nothing → mapped whole total ≡ Ok (y, end)
    closed end y e f g =
        ap (mapped whole) (reached_by (Ok (nothing, end)) (end_read rest here space e (Some end)
        (expect_past (closing kind) here end f))) ∙ ap (λ (z : X). Ok (z, end)) (c.means nothing ∙ sym g)

    pub shorter : (next : List ℕ) (x : Label × Value) (after : List ℕ) → past 44 here ≡ Some next
        → item_of (after_space next) ≡ Ok (x, after) → length after < length rest
    shorter next x after e f =
        let r = reads_of (IsItem depth inner (good_nested depth) kind) item_of
        (good_item depth inner (good_nested depth) kind) (after_space next) x after f in
        let s = good_space rest in
        let t = good_space next in
        omega (
          arith,
          ap length space,
          ap length r.parts,
          length-append r.text after,
          ap length s.parts,
          length-append
              s.text (after_space rest),
          ap length t.parts,
          length-append t.text (after_space next),
          ap length
              (past_takes 44 here next e),
        )
