-- One call more in a record.
use Rattle.std.proofs.Common.{◌≡◌, ℕ, ◌+◌, ◌<◌, ◌≤◌, ◌-◌, List, [], ◌∷◌, ◌++◌, length, get_or, take, drop, sym, ◌∙◌}
use Rattle.std.proofs.Common.{ap, arith}
use Rattle.std.specs.Prelude.{map, reverse}
use Rattle.std.proofs.lemmas.List.{map-append, reverse-append, take_more, take_all, take-append-drop, length-reverse}
use Rattle.std.proofs.lemmas.List.{length-map, length-drop, drop_at}
use Rattle.vl_vault.specs.Record.{past_of, event_of}
use Rattle.vl_vault.specs.declared.call.Call.{Call}

pub past_of-push : (calls : List Call) (call : Call) → past_of (calls ++ call ∷ []) ≡ event_of call ∷ past_of calls
past_of-push calls call = ap reverse (map-append event_of calls (call ∷ []))
    ∙ reverse-append (map event_of calls) (event_of call ∷ [])

pub past_of-more : (calls : List Call) (i : ℕ) (call : Call) → i < length calls → call ≡ get_or calls i call
    → past_of (take (i + 1) calls) ≡ event_of call ∷ past_of (take i calls)
past_of-more calls i call below is = ap past_of (take_more calls i call below
    ∙ ap (λ c. take i calls ++ c ∷ []) (sym is)) ∙ past_of-push (take i calls) call

pub past_of-all : (calls : List Call) (n : ℕ) → length calls ≡ n → past_of (take n calls) ≡ past_of calls
past_of-all calls n is = ap past_of (take_all n calls (omega arith))

-- the calls up to one, in the past of all
pub past_of-take : (calls : List Call) (k : ℕ) → k ≤ length calls
    → past_of (take k calls) ≡ drop (length calls - k) (past_of calls)
past_of-take calls k below =
    let first = take k calls in
    let rest = drop k calls in
    let parts : past_of calls ≡ past_of rest ++ past_of first =
    ap past_of (sym (take-append-drop k calls)) ∙ ap reverse (map-append event_of first rest)
    ∙ reverse-append (map event_of first) (map event_of rest) in
    let long : length (past_of rest) ≡ length calls - k =
    length-reverse (map event_of rest) ∙ length-map rest event_of ∙ length-drop k calls in
    sym (ap (drop (length calls - k)) parts ∙ drop_at (past_of rest) (past_of first) (length calls - k) long)

-- the same, where the calls come after the contents that the vault began with
pub past_of-moment : (calls : List Call) (n initial call : ℕ) → length calls ≡ n → initial + call ≤ n
    → drop ((n - initial) - call) (past_of calls) ≡ past_of (take (initial + call) calls)
past_of-moment calls n initial call is below =
    ap (λ k. drop k (past_of calls)) (omega (arith, is, below))
    ∙ sym (past_of-take calls (initial + call) (omega (arith, is, below)))
