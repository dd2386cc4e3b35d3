-- What holds of a result, where something else does.
use Rattle.std.proofs.Common.{◌≡◌, Result, Ok, Err, sym, subst}
use Rattle.std.specs.Prelude.{IfErr, IfOk, IsErrAnd, OnErr}

pub ok_so : {T E : Type 0} (result : Result T E) (P Q : T → Type 0) → IfOk result P → ((x : T) → P x → Q x)
    → IfOk result Q
ok_so (Ok x) P Q h f = f x h
ok_so (Err e) P Q h f = tt

pub err_so : {T E : Type 0} (result : Result T E) (P Q : E → Type 0) → IfErr result P → ((e : E) → P e → Q e)
    → IfErr result Q
err_so (Ok x) P Q h f = tt
err_so (Err e) P Q h f = f e h

-- what holds of an error holds of what it became
pub if_err : {T E : Type 0} (result : Result T E) (P Q : E → Type 0) → IsErrAnd result P → ((e : E) → P e → Q e)
    → IfErr result Q
if_err (Ok x) P Q is f = tt
if_err (Err e) P Q is f = f e is

-- where all stays at an error
pub err_same : {T E S : Type 0} (result : Result T E) (old new : S) (P : E → Type 0) (Q : S → E → Type 0)
    → IfErr result P → OnErr result (new ≡ old) → ((e : E) → P e → Q old e) → IfErr result (Q new)
err_same (Ok x) old new P Q why same f = tt
err_same (Err e) old new P Q why same f = subst (λ s. Q s e) (sym same) (f e why)
