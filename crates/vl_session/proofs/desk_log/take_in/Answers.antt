use Rattle.std.proofs.Common.{◌≡◌, ℕ, Option, Some, None, IfSome, inl, ◌∙◌}
use Rattle.std.specs.Option.{unwrap_or}
use Rattle.log_desk.specs.Seen.{caller_of, seen_of}
use Rattle.vl_session.proofs.EffectLemmas.{on_err}
use Rattle.vl_session.proofs.SeenLemmas.{follows_none}
use Rattle.vl_session.proofs.desk_log.take_in.Goals as goal

unwrapped : (batch : Option ℕ) (number : ℕ) → number ≡ unwrap_or batch 0 → IfSome batch (λ batch. number ≡ batch)
unwrapped None number is = tt
unwrapped (Some batch) number is = is

pub returns-in-Ok-clause-taken : goal.returns-in-Ok-clause-taken
returns-in-Ok-clause-taken g c =
    inl (record {
      insertion = c.in-Ok.insertion;
      commits = c.in-Ok.ensures.committed;
      number = c.unwrap_or-number.result;
      numbered = unwrapped c.in-Ok.insertion.batch c.unwrap_or-number.result c.unwrap_or-number.ensures;
      said = c.with_number.ensures ∙ c.in_ok-prepared.ensures c.unwrap_or-number.result c.unwrap_or-number.type_inv;
    })

pub returns-in_err-prepared-clause-untaken : goal.returns-in_err-prepared-clause-untaken
returns-in_err-prepared-clause-untaken g c =
    on_err c.from_residual.result _ (follows_none (caller_of c.args.pass.now) (seen_of c.args.pass.now))
