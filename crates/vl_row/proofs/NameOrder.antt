-- The order of names.
use Rattle.std.proofs.Common.{◌≡◌, ℕ, List, Bool, false, bytes_eq, sym, ap, ◌∙◌}
use Rattle.std.specs.Ordering.{ordering_reverse, is_eq}
use Rattle.std.specs.declared.cmp.Ordering.TheVariants.{Less, Equal, Greater}
use Rattle.std.proofs.lemmas.Cmp.{nat_list_cmp_total, tied_itself}
use Rattle.std.proofs.lemmas.Map.Text.{is_eq-slice_cmp}
use Rattle.std.proofs.lemmas.Slice.Eq.{bytes_eq-Decides}
use Rattle.log_model.specs.Field.{bytes_cmp}

pub less_back : (x y : List ℕ) → bytes_cmp x y ≡ Less → bytes_cmp y x ≡ Greater
less_back x y h = nat_list_cmp_total.antisymm y x ∙ ap ordering_reverse h

pub less_from_greater : (x y : List ℕ) → bytes_cmp x y ≡ Greater → bytes_cmp y x ≡ Less
less_from_greater x y h = nat_list_cmp_total.antisymm y x ∙ ap ordering_reverse h

pub other_above : (name x : List ℕ) → bytes_cmp name x ≡ Less → bytes_eq name x ≡ false
other_above name x h = sym (is_eq-slice_cmp name x) ∙ ap is_eq h

pub other_below : (name x : List ℕ) → bytes_cmp x name ≡ Less → bytes_eq name x ≡ false
other_below name x h = sym (is_eq-slice_cmp name x) ∙ ap is_eq (less_back x name h)

pub same_name : (x name : List ℕ) → bytes_cmp x name ≡ Equal → x ≡ name
same_name x name h = (bytes_eq-Decides x name).0 (sym (is_eq-slice_cmp x name) ∙ ap is_eq h)

pub equal_itself : (name : List ℕ) → bytes_cmp name name ≡ Equal
equal_itself name = tied_itself nat_list_cmp_total name
