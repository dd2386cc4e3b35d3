use Rattle.std.proofs.Common.{◌∙◌, List, Some, ap, arith, sym, take, ℕ}
use Rattle.std.proofs.lemmas.List.{length-take}
use Rattle.byte_format.proofs.Cuts.{no_cut}
use Rattle.byte_format.proofs.Damage.{bad-at, stops-left}
use Rattle.byte_format.proofs.Spellings.{equal-spelling, other-spelling, reading-only}
use Rattle.byte_format.proofs.exactly.compared.Goals as goal

pub returns-in-None : goal.returns-in-None
returns-in-None g c =
    equal-spelling (g.S.Spelled.format c.args.context) (g.S.Spelled.writing c.args.context) c.args.bytes.now
    c.args.spelling.now (g.S.Spelled.meaning c.args.output) (g.met.S.Spelled.again c.args.context)
    c.requires.items c.requires.written c.in-None.ensures.none

pub unreachable-requires : goal.unreachable-requires
unreachable-requires g c =
    no_cut (g.S.Spelled.format c.args.context) c.args.bytes.now (g.S.Spelled.meaning c.args.output)
    (g.S.Spelled.meant c.in-Ok.field-0) c.in-Some.d c.requires.items
    c.in-Some.ensures.some.0 c.in-Ok.ensures.items

pub overflow_add-result : goal.overflow_add-result
overflow_add-result g c =
    let r = bad-at (g.S.Spelled.format c.args.context) (take c.in-Some.d c.args.bytes.now) c.in-Err-Left.left
    (stops-left c.in-Err-Left.field-0 c.in-Err-Left.left _ c.in-Err-Left.field-0-is c.in-Err-Left.ensures.items) in
    omega (arith, r.0, length-take c.in-Some.d c.args.bytes.now, c.in-Some.ensures.some.0)

pub returns : goal.returns
returns g c =
    let s = c.in-Some.ensures.some in
    other-spelling (g.S.Spelled.format c.args.context) (g.S.Spelled.writing c.args.context) c.args.bytes.now
    c.args.spelling.now (g.S.Spelled.meaning c.args.output) c.in-Some.d
    c.in-Err-Left.left (g.met.S.Spelled.again c.args.context) c.requires.items c.requires.written s.0 s.1 s.2 s.3
    (stops-left c.in-Err-Left.field-0 c.in-Err-Left.left _ c.in-Err-Left.field-0-is c.in-Err-Left.ensures.items)

pub returns-then-are_same : goal.returns-then-are_same
returns-then-are_same g c =
    reading-only (g.S.Spelled.format c.args.context) (g.S.Spelled.writing c.args.context) c.args.bytes.now
    (g.S.Spelled.meaning c.args.output) (g.met.S.Spelled.again c.args.context) (c.requires.written
    ∙ ap (λ (l : List ℕ). Some l) (sym (c.are_same.ensures c.if-are_same.true)))
