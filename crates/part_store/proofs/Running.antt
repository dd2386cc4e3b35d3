-- Runs of calls that change some files only.
use Rattle.std.proofs.Common.{◌≡◌, inl, inr, ℕ, ◌+◌, ◌<◌, List, [], get_or, sym, ◌∙◌}
use Rattle.std.proofs.Common.{subst, arith, refl}
use Rattle.std.specs.Prelude.{⊤}
use Rattle.std.proofs.lemmas.Bool.{cases_eq}
use Rattle.vl_vault.specs.Disk.{Past, content}
use Rattle.vl_vault.specs.Moments.{Always, now, ChangesFile, IsDurable}
use Rattle.vl_vault.proofs.Runs.{join, last, weaken}
use Rattle.part_store.specs.Preparing.{ChangesOnly}

pub unchanged : (T : ℕ → Type 0) (old : Past) → ChangesOnly T old old
unchanged T old = record { image = λ image may. tt; others = λ f no c left. left; others_read = λ f no. refl }

pub begun_only : (T : ℕ → Type 0) (old : Past) → Always (ChangesOnly T old) old old
begun_only T old = now (unchanged T old)

-- a function on one of the files after others
pub only_on : (T : ℕ → Type 0) (old : Past) (file : ℕ) → T file → {mid new : Past} → Always (ChangesOnly T old) old mid
    → Always (ChangesFile file (λ _. ⊤) mid) mid new → Always (ChangesOnly T old) old new
only_on T old file touched {mid = mid} first run =
    let w = last first in
    let apart : (f : ℕ) → (T f → ⊥) → f ≡ file → ⊥ = λ f no is. no (subst T (sym is) touched) in
    join first (weaken (λ p here. record {
      image = λ image may. tt;
      others = λ f no c left. w.others f no c (here.others f (apart f no) c left);
      others_read = λ f no. here.others_read f (apart f no) ∙ w.others_read f no;
    }) run)

-- nothing is pending in a file that was not changed
pub durable_still : {P : List ℕ → Type 0} (file f : ℕ) (old new : Past) → ChangesFile file P old new
    → (f ≡ file → ⊥) → IsDurable old f → IsDurable new f
durable_still file f old new w apart was c left = was c (w.others f apart c left) ∙ sym (w.others_read f apart)

-- one more file has its content
pub contents_more : {P : List ℕ → Type 0} (first i : ℕ) (contents : List (List ℕ)) (old new : Past)
    → ((k : ℕ) → k < i → IsDurable old (first + k) × (content old (first + k) ≡ get_or contents k []))
    → ChangesFile (first + i) P old new → IsDurable new (first + i)
    → content new (first + i) ≡ get_or contents i []
    → (k : ℕ) → k < i + 1 → IsDurable new (first + k) × (content new (first + k) ≡ get_or contents k [])
contents_more first i contents old new before w durable is k under = elim (cases_eq k i) [
  | inl same ↦ subst (λ n. IsDurable new (first + n) × (content new (first + n) ≡ get_or contents n [])) (sym same)
      (durable, is)
  | inr other ↦
      let was = before k (omega (arith, under, other)) in
      let apart : first + k ≡ first + i → ⊥ = λ same. other (omega (arith, same)) in (
        durable_still (first + i) (first + k) old new w apart was.0,
        w.others_read (first + k) apart ∙ was.1,
      )
]
