-- How a run of calls on one file goes on, and how runs are joined.
use Rattle.std.proofs.Common.{◌≡◌, inl, inr, ℕ, List, [], ◌∷◌, length, Ok, Err, refl, sym, ◌∙◌, ap, subst}
use Rattle.std.specs.Prelude.{Result, ⊤}
use Rattle.vl_vault.specs.Disk.{Event, Synced, Past, content, MayLeave, IsTorn, IsCut}
use Rattle.vl_vault.specs.Moments.{Always, now, more, IsUnchanged, ChangesFile, IsDurable}
use Rattle.vl_vault.specs.Calls.{DidWrite, DidCut, DidSync, DidRead, Adds}
use Rattle.vl_vault.proofs.Leaving.{content-wrote, content-cut, may_leave-wrote, may_leave-cut, may_leave-synced}
use Rattle.vl_vault.proofs.Leaving.{content-wrote_other, content-cut_other, may_leave-wrote_other}
use Rattle.vl_vault.proofs.Leaving.{may_leave-cut_other, may_leave-synced_other}

-- what holds at each moment holds at the last
pub last : {Q : Past → Type 0} {old new : Past} → Always Q old new → Q new
last (now q) = q
last (more run q) = q

-- one run after another
pub join : {Q : Past → Type 0} {a b c : Past} → Always Q a b → Always Q b c → Always Q a c
join first (now q) = first
join first (more run q) = more (join first run) q

-- a weaker fact
pub weaken : {Q R : Past → Type 0} {old new : Past} → ((p : Past) → Q p → R p) → Always Q old new → Always R old new
weaken f (now q) = now (f _ q)
weaken f (more run q) = more (weaken f run) (f _ q)

-- one event more, or none
pub go_on : {Q : Past → Type 0} {T E : Type 0} {old mid new : Past} {e : Event} (r : Result T E) → Always Q old mid
    → Adds r mid e new → Q (e ∷ mid) → Always Q old new
go_on {Q = Q} {old = old} (Ok x) run is q = subst (Always Q old) (sym is) (more run q)
go_on {Q = Q} {old = old} (Err x) run (inl is) q = subst (Always Q old) (sym is) (more run q)
go_on {Q = Q} {old = old} (Err x) run (inr is) q = subst (Always Q old) (sym is) run

module _ (file : ℕ) (P : List ℕ → Type 0) (old : Past) where
  abbrev W : Past → Type 0
  W = ChangesFile file P old

  pub begun : IsDurable old file → P (content old file) → Always W old old
  begun durable here = now (record {
    left = λ c left. subst P (sym (durable c left)) here;
    read = here;
    others = λ f ne c left. left;
    others_read = λ f ne. refl;
  })

  pub was_read : {T E : Type 0} {mid new : Past} (r : Result T E) → Always W old mid → DidRead mid new r
      → Always W old new
  was_read r run is = let w = last run in
      go_on r run is (record { left = w.left; read = w.read; others = w.others; others_read = w.others_read })

  -- a write where P holds of all that a torn one leaves
  wrote_any : {T E : Type 0} {mid new : Past} {at : ℕ} {bytes : List ℕ} {r : Result T E} → Always W old mid
      → DidWrite mid new file at bytes r
      → ((d c : List ℕ) → MayLeave mid file d → IsTorn at (length bytes) d c → P c) → ((c : List ℕ)
      → IsTorn at (length bytes) (content mid file) c → P c) → Always W old new
  wrote_any {mid = mid} {at = at} {bytes = bytes} {r = r} run did left read = let w = last run in
      go_on r run did.adds (record {
        left = λ c l. let p = may_leave-wrote mid file at (length bytes) did.after c l in left p.0 c p.1 p.2;
        read = subst P (sym (content-wrote mid file at (length bytes) did.after [])) (read did.after did.torn);
        others = λ f ne c l. w.others f ne c (may_leave-wrote_other mid f at (length bytes) did.after c file ne l);
        others_read = λ f ne. content-wrote_other mid f at (length bytes) did.after [] file ne ∙ w.others_read f ne;
      })

  -- over a durable file
  pub wrote : {T E : Type 0} {mid new : Past} {at : ℕ} {bytes : List ℕ} {r : Result T E} → Always W old mid
      → DidWrite mid new file at bytes r → IsDurable mid file
      → ((c : List ℕ) → IsTorn at (length bytes) (content mid file) c → P c) → Always W old new
  wrote {at = at} {bytes = bytes} run did durable torn = wrote_any run did (λ d c left t. torn c (subst (λ f. IsTorn
      at (length bytes) f c) (durable d left) t)) torn

  -- where P outlives the step
  pub wrote_on : {T E : Type 0} {mid new : Past} {at : ℕ} {bytes : List ℕ} {r : Result T E} → Always W old mid
      → DidWrite mid new file at bytes r
      → ((d c : List ℕ) → P d → IsTorn at (length bytes) d c → P c) → Always W old new
  wrote_on run did keeps = let w = last run in wrote_any run did (λ d c left t. keeps d c (w.left d left) t) (λ c t.
      keeps _ c w.read t)

  pub cut_on : {T E : Type 0} {mid new : Past} {len : ℕ} {r : Result T E} → Always W old mid → DidCut mid new file len r
      → ((d c : List ℕ) → P d → IsCut len d c → P c) → Always W old new
  cut_on {mid = mid} {len = len} {r = r} run did keeps = let w = last run in
      go_on r run did.adds (record {
        left = λ c l. let p = may_leave-cut mid file 0 len did.after c l in keeps p.0 c (w.left p.0 p.1) p.2;
        read = subst P (sym (content-cut mid file 0 len did.after [])) (keeps _ did.after w.read did.cut);
        others = λ f ne c l. w.others f ne c (may_leave-cut_other mid f 0 len did.after c file ne l);
        others_read = λ f ne. content-cut_other mid f 0 len did.after [] file ne ∙ w.others_read f ne;
      })

  pub synced : {T E : Type 0} {mid new : Past} (r : Result T E) → Always W old mid → DidSync mid new file r
      → Always W old new
  synced {T = T} {E = E} {mid = mid} (Ok x) run did = let w = last run in
      go_on {T = T} {E = E} (Ok x) run did (record {
        left = λ c l. subst P (sym (may_leave-synced mid file 0 0 [] c l)) w.read;
        read = w.read;
        others = λ f ne c l. w.others f ne c (may_leave-synced_other mid f 0 0 [] c file ne l);
        others_read = w.others_read;
      })
  synced {T = T} {E = E} (Err x) run did = was_read {T = T} {E = E} (Err x) run did

  -- one function after another
  pub followed : {mid new : Past} → Always W old mid → Always (ChangesFile file P mid) mid new → Always W old new
  followed first run = let w = last first in join first (weaken (λ p here. record {
    left = here.left;
    read = here.read;
    others = λ f ne c l. w.others f ne c (here.others f ne c l);
    others_read = λ f ne. here.others_read f ne ∙ w.others_read f ne;
  }) run)

pub widen : {file : ℕ} {P Q : List ℕ → Type 0} {old new : Past} → ((c : List ℕ) → P c → Q c)
    → Always (ChangesFile file P old) old new → Always (ChangesFile file Q old) old new
widen f run = weaken (λ p w. record {
  left = λ c l. f c (w.left c l);
  read = f _ w.read;
  others = w.others;
  others_read = w.others_read;
}) run

-- what is on the disk after a good sync
pub durable : (old new : Past) (file : ℕ) → new ≡ Synced file ∷ old → IsDurable new file
durable old new file is = subst (λ p. IsDurable p file) (sym is) (λ c left. may_leave-synced old file 0 0 [] c left)

-- a call that changes nothing leaves a file durable, and as it was read
pub durable_read : {T E : Type 0} (old new : Past) (r : Result T E) (file : ℕ) → DidRead old new r
    → IsDurable old file → IsDurable new file
durable_read old new (Ok x) file is was = subst (λ p. IsDurable p file) (sym is) was
durable_read old new (Err x) file (inl is) was = subst (λ p. IsDurable p file) (sym is) was
durable_read old new (Err x) file (inr is) was = subst (λ p. IsDurable p file) (sym is) was

pub content_read : {T E : Type 0} (old new : Past) (r : Result T E) (file : ℕ) → DidRead old new r
    → content new file ≡ content old file
content_read old new (Ok x) file is = ap (λ p. content p file) is
content_read old new (Err x) file (inl is) = ap (λ p. content p file) is
content_read old new (Err x) file (inr is) = ap (λ p. content p file) is

-- a run where nothing is said of the file itself
pub begun_any : (file : ℕ) (old : Past) → Always (ChangesFile file (λ _. ⊤) old) old old
begun_any file old = now (record { left = λ c l. tt; read = tt; others = λ f ne c l. l; others_read = λ f ne. refl })

pub begun_unchanged : (old : Past) → Always (IsUnchanged old) old old
begun_unchanged old = now (record { left = λ f c l. l; read = λ f. refl })

pub read_on : {T E : Type 0} {old mid new : Past} (r : Result T E) → Always (IsUnchanged old) old mid
    → DidRead mid new r → Always (IsUnchanged old) old new
read_on {mid = mid} r run is = let w = last run in go_on r run is (record { left = w.left; read = w.read })

-- one function that only reads after another
pub unchanged_on : {old mid new : Past} → Always (IsUnchanged old) old mid → Always (IsUnchanged mid) mid new
    → Always (IsUnchanged old) old new
unchanged_on first run = let w = last first in join first (weaken (λ p here. record {
  left = λ f c left. w.left f c (here.left f c left);
  read = λ f. here.read f ∙ w.read f;
}) run)

-- nothing is pending in a file of a new vault
pub durable_new : (file : ℕ) → IsDurable [] file
durable_new file = λ c left. left
