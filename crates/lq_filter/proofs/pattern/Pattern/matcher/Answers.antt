use Rattle.std.proofs.lemmas.Result.{IfOk-weaker}
use Rattle.lq_filter.proofs.Reading.{finds_as_read}
use Rattle.lq_filter.proofs.pattern.Pattern.matcher.Goals as goal

pub returns : goal.returns
returns c =
    let finds = rw c.self.view_is at (finds_as_read c.self.inside.regex c.self.invariant.0 c.self.invariant.1) in
    IfOk-weaker c.matcher.result _ _ (λ m e. rw e finds) c.matcher.ensures.pattern
