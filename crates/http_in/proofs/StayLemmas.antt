-- What the first bytes decide stays decided, whatever follows: a request, and a fault.
use Rattle.std.proofs.Common.{ℕ, ◌-◌, List, [], ◌∷◌, ◌++◌, take, length, get_or}
use Rattle.std.proofs.Common.{ap, ◌∙◌, inl, inr, arith, append_assoc, length-append}
use Rattle.std.proofs.lemmas.List.{take-append-le}
use Rattle.http_said.specs.declared.framing.FieldFault.TheVariants as fields
use Rattle.http_in.specs.Faults.{HasBadLine, HasBadSection, HasBodyFault, HasCome, HasFault, HasLargeSection, Hits}
use Rattle.http_in.specs.Faults.{IsNoEnd, IsTooMuch, place_behind}
use Rattle.http_in.specs.Limits.{field_limit, head_limit}
use Rattle.http_in.specs.Message.{Asked, Begins}
use Rattle.http_in.specs.declared.fault.RequestFault.{RequestFault}
use Rattle.http_in.specs.declared.fault.RequestFault.TheVariants as faults
use Rattle.http_in.specs.declared.stage.Stage.{Stage}
use Rattle.http_in.specs.declared.stage.Stage.TheVariants as stages
use Rattle.http_in.proofs.HeadLemmas.{BeginsHead-more, bad_head_more, large_more, over_more, take_append}
use Rattle.http_in.proofs.HeadLemmas.{unframed_more}

-- ---- the pieces of a body

bad_line_more : (bytes more : List ℕ) → HasBadLine bytes → HasBadLine (bytes ++ more)
bad_line_more bytes more (inl f) =
    inl (f.0, f.1 ++ more, ap (λ l. l ++ more) f.2 ∙ append_assoc f.0 f.1 more, f.3, f.4)
bad_line_more bytes more (inr f) =
    inr (omega (arith, length-append bytes more, f.0), rw (take-append-le head_limit bytes more f.0) f.1)

too_much_more : (body rest more : List ℕ) → IsTooMuch body rest → IsTooMuch body (rest ++ more)
too_much_more body rest more f = record {
  line = f.line;
  behind = f.behind ++ more;
  is_line = f.is_line;
  whole = ap (λ l. l ++ more) f.whole ∙ append_assoc _ f.behind more;
  over = f.over;
}

no_end_more : (bytes more : List ℕ) → IsNoEnd bytes → IsNoEnd (bytes ++ more)
no_end_more [] more f = absurd f
no_end_more (b ∷ []) [] f = f
no_end_more (b ∷ []) (c ∷ more) f = λ e. f (ap (λ l. get_or l 0 0) e)
no_end_more (b ∷ c ∷ bytes) more f = f

bad_section_more : (bytes more : List ℕ) → HasBadSection bytes → HasBadSection (bytes ++ more)
bad_section_more bytes more f = record {
  front = f.front;
  later = f.later ++ more;
  whole = ap (λ l. l ++ more) f.whole ∙ append_assoc f.front f.later more;
  short = f.short;
  few = f.few;
  never = f.never;
}

large_section_more : (bytes more : List ℕ) → HasLargeSection bytes → HasLargeSection (bytes ++ more)
large_section_more bytes more (inl f) =
    inl (omega (arith, length-append bytes more), rw (take-append-le head_limit bytes more f.0) f.1)
large_section_more bytes more (inr f) =
    inr
    (rw (take_append head_limit bytes more)
    (record {
      front = f.front;
      is_front = f.is_front;
      over = over_more (take head_limit bytes) f.front (take (head_limit - length bytes) more) field_limit f.over;
    }))

hits_more : (at : ℕ) (stage : Stage) (body rest more : List ℕ) (fault : RequestFault) → Hits at stage body rest fault
    → Hits at stage body (rest ++ more) fault
hits_more at (stages.Rest left) body rest more fault f = absurd f
hits_more at stages.Line body rest more fault (inl f) = inl (f.0, bad_line_more rest more f.1)
hits_more at stages.Line body rest more fault (inr f) = inr (f.0, too_much_more body rest more f.1)
hits_more at (stages.Data left) body rest more fault f = absurd f
hits_more at stages.End body rest more fault f = (f.0, no_end_more rest more f.1)
hits_more at stages.Trailer body rest more fault (inl f) = inl (f.0, bad_section_more rest more f.1)
hits_more at stages.Trailer body rest more fault (inr f) = inr (f.0, large_section_more rest more f.1)
hits_more at stages.Done body rest more fault f = absurd f

come_more : (bytes more : List ℕ) → HasCome bytes → HasCome (bytes ++ more)
come_more bytes more c = record {
  head = c.head;
  after = c.after ++ more;
  begins = BeginsHead-more bytes c.head c.after more c.begins;
  framing = c.framing;
  framed = c.framed;
  raw = c.raw;
  stage = c.stage;
  body = c.body;
  rest = c.rest ++ more;
  leads = c.leads;
  room = c.room;
  follows = ap (λ l. l ++ more) c.follows ∙ append_assoc c.raw c.rest more;
}

body_fault_more : (start : ℕ) (bytes more : List ℕ) (fault : RequestFault) → HasBodyFault start bytes fault
    → HasBodyFault start (bytes ++ more) fault
unfolding come_more
body_fault_more start bytes more fault f = record {
  come = come_more bytes more f.come;
  hits = hits_more (place_behind start f.come) f.come.stage f.come.body f.come.rest more fault f.hits;
}

-- ---- requests

pub Begins-more : (bytes rest more : List ℕ) (asked : Asked) → Begins bytes asked rest
    → Begins (bytes ++ more) asked (rest ++ more)
Begins-more bytes rest more asked b = record {
  head = b.head;
  after = b.after ++ more;
  framing = b.framing;
  raw = b.raw;
  begins = BeginsHead-more bytes b.head b.after more b.begins;
  framed = b.framed;
  body = b.body;
  short = b.short;
  follows = ap (λ l. l ++ more) b.follows ∙ append_assoc b.raw rest more;
  asks = b.asks;
}

pub HasFault-more : (start : ℕ) (bytes more : List ℕ) (fault : RequestFault) → HasFault start bytes fault
    → HasFault start (bytes ++ more) fault
HasFault-more start bytes more faults.SourceFault f = f
HasFault-more start bytes more (faults.BadHead at) f = (f.0, bad_head_more bytes more f.1)
HasFault-more start bytes more (faults.Cut at) f = f
HasFault-more start bytes more faults.HeadLarge (inl f) = inl (large_more bytes more f)
HasFault-more start bytes more faults.HeadLarge (inr f) = inr (body_fault_more start bytes more faults.HeadLarge f)
HasFault-more start bytes more faults.BodyLarge (inl f) = inl (unframed_more bytes more fields.BodyLarge f)
HasFault-more start bytes more faults.BodyLarge (inr f) = inr (body_fault_more start bytes more faults.BodyLarge f)
HasFault-more start bytes more faults.BadLength f = unframed_more bytes more fields.BadLength f
HasFault-more start bytes more (faults.BadChunk at) f = body_fault_more start bytes more (faults.BadChunk at) f
HasFault-more start bytes more faults.Coding f = unframed_more bytes more fields.Coding f
HasFault-more start bytes more faults.Memory f = f
