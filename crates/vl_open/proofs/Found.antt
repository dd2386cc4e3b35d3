-- An image finds one front and one list of parts.
use Rattle.std.proofs.Common.{◌≡◌, inl, inr, ℕ, List, [], ◌∷◌, length, Ok, Err, refl, sym, ◌∙◌, ap, subst}
use Rattle.std.specs.Prelude.{Option, Some, None, Result}
use Rattle.std.specs.List.{AllZip}
use Rattle.log_model.specs.History.{Numbered}
use Rattle.log_model.specs.Row.{Batch}
use Rattle.vl_vault.specs.Disk.{Image, Past, content}
use Rattle.part_file.specs.Again.{is_read_again}
use Rattle.part_file.specs.Format.{part_writing}
use Rattle.parts_list.specs.Slots.{found_in}
use Rattle.parts_list.specs.declared.list.Entry.{Entry}
use Rattle.parts_list.specs.declared.list.List.{List as Listing}
use Rattle.part_store.specs.State.{Listed, StoreState}
use Rattle.part_store.specs.Finds.{AreRowsOf, Finds, FindsParts, HasPart, HaveRows, HoldsWhole}
use Rattle.vl_open.specs.Opening.{HoldsFound}

-- ---- one part

abbrev rows_in : Result (List Numbered) ℕ → List Numbered → List Numbered
rows_in (Ok rows) other = rows
rows_in (Err left) other = other

one_spelling : (a b : List Numbered) (bytes : List ℕ) → part_writing a ≡ Some bytes → part_writing b ≡ Some bytes
    → a ≡ b
one_spelling a b bytes is same =
    ap (λ (r : Result (List Numbered) ℕ). rows_in r b) (sym (is_read_again a bytes is) ∙ is_read_again b bytes same)

one_part : (image : Image) (entry : Entry) (a b : Listed) → HasPart image entry a → HasPart image entry b → a ≡ b
one_part image entry a b p q =
    let file : a.file ≡ b.file = sym p.file ∙ q.file in
    let day : a.day ≡ b.day = sym p.day ∙ q.day in
    let rows : a.rows ≡ b.rows = one_spelling a.rows b.rows (image b.file)
    (p.spelling ∙ ap (λ (f : ℕ). Some (image f)) file) q.spelling in
    λ i. record { day = day i; file = file i; rows = rows i }

one_zip : (image : Image) (entries : List Entry) (a b : List Listed) → AllZip (HasPart image) entries a
    → AllZip (HasPart image) entries b → a ≡ b
one_zip image [] [] [] p q = refl
one_zip image [] [] (y ∷ b) p q = absurd q
one_zip image [] (x ∷ a) b p q = absurd p
one_zip image (entry ∷ entries) [] b p q = absurd p
one_zip image (entry ∷ entries) (x ∷ a) [] p q = absurd q
one_zip image (entry ∷ entries) (x ∷ a) (y ∷ b) p q =
    λ i. one_part image entry x y p.0 q.0 i ∷ one_zip image entries a b p.1 q.1 i

-- ---- one list

abbrev list_in : Option (Option Listing) → Listing → Listing
list_in (Some (Some list)) other = list
list_in (Some None) other = other
list_in None other = other

not_both : (found : Option (Option Listing)) (list : Listing) → found ≡ Some None → found ≡ Some (Some list) → ⊥
not_both found list none some = absurd cc

same_found : (image : Image) (f g : ℕ) (a b : List Listed) → FindsParts f a image → FindsParts g b image
    → (f ≡ g) × (a ≡ b)
same_found image f g a b (inl p) (inl q) = (p.1 ∙ sym q.1, p.2 ∙ sym q.2)
same_found image f g a b (inl p) (inr q) = absurd (not_both (found_in image) q.0 p.0 q.1)
same_found image f g a b (inr p) (inl q) = absurd (not_both (found_in image) p.0 q.0 p.1)
same_found image f g a b (inr p) (inr q) =
    let same : q.0 ≡ p.0 = ap (λ (o : Option (Option Listing)). list_in o p.0) (sym q.1 ∙ p.1) in (
      sym p.2 ∙ ap (λ (l : Listing). l.front) (sym same) ∙ q.2,
      one_zip image p.0.entries a b p.3 (subst (λ (l : Listing). AllZip (HasPart image) l.entries b) same q.3),
    )

-- ---- what a store holds

module _ {V : Type 0} (store : StoreState V) (past : Past) (found : FindsParts store.front store.parts
    (content past)) where
  holds : (held : List Batch) → HaveRows held → Finds held (content past) → HoldsWhole store held
  holds held rows finds =
      let same = same_found (content past) store.front (length held) store.parts finds.0 found finds.1 in
      record {
        whole = sym same.0;
        are = subst (λ (parts : List Listed). AreRowsOf parts held) (sym same.1) finds.2;
        rows = rows;
      }

  pub holds_found : HoldsFound past store
  holds_found = record {
    content = found;
    each = holds;
    images = λ leaves held rows each. holds held rows (each (content past) leaves);
  }
