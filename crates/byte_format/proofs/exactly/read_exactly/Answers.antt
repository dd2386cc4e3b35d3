use Rattle.std.proofs.Common.{◌∙◌, sym, arith}
use Rattle.byte_format.specs.Spelling.{reading}
use Rattle.byte_format.proofs.Damage.{damaged-at, stops-left}
use Rattle.byte_format.proofs.Spellings.{reading-found, reading-only, reading-none}
use Rattle.byte_format.proofs.exactly.read_exactly.Goals as goal

pub overflow_sub-result : goal.overflow_sub-result
overflow_sub-result g c =
    let f = g.S.Spelled.format c.args.context in
    let w = g.S.Spelled.writing c.args.context in
    let e = stops-left c.in-Err-Left.field-0 c.in-Err-Left.left (reading f w c.args.bytes.now)
    c.in-Err-Left.field-0-is c.in-Err-Left.ensures in
    (damaged-at f w c.args.bytes.now c.in-Err-Left.left e).0

pub returns-in-Ok-clause-found : goal.returns-in-Ok-clause-found
returns-in-Ok-clause-found g c =
    reading-found (g.S.Spelled.format c.args.context) (g.S.Spelled.writing c.args.context) c.args.bytes.now
    (g.S.Spelled.meaning c.in-Ok.output) (g.met.S.Spelled.again c.args.context) c.in-Ok.ensures

pub returns-in-Ok-clause-only : goal.returns-in-Ok-clause-only
returns-in-Ok-clause-only g c x w =
    sym (reading-only (g.S.Spelled.format c.args.context) (g.S.Spelled.writing c.args.context) c.args.bytes.now x
    (g.met.S.Spelled.again c.args.context) w) ∙ c.in-Ok.ensures

pub returns-in-Err-Left-clause-only : goal.returns-in-Err-Left-clause-only
returns-in-Err-Left-clause-only g c x w =
    let e = stops-left c.in-Err-Left.field-0 c.in-Err-Left.left _ c.in-Err-Left.field-0-is c.in-Err-Left.ensures in
    absurd (reading-none (g.S.Spelled.format c.args.context) (g.S.Spelled.writing c.args.context) c.args.bytes.now
    c.in-Err-Left.left (g.met.S.Spelled.again c.args.context) e x w)

pub returns-in-Err-Left-clause-damaged : goal.returns-in-Err-Left-clause-damaged
returns-in-Err-Left-clause-damaged g c =
    let e = stops-left c.in-Err-Left.field-0 c.in-Err-Left.left _ c.in-Err-Left.field-0-is c.in-Err-Left.ensures in
    (damaged-at (g.S.Spelled.format c.args.context) (g.S.Spelled.writing c.args.context) c.args.bytes.now
    c.in-Err-Left.left e).1

pub returns-in-Err-Left-clause-exact : goal.returns-in-Err-Left-clause-exact
returns-in-Err-Left-clause-exact g c =
    let e = stops-left c.in-Err-Left.field-0 c.in-Err-Left.left _ c.in-Err-Left.field-0-is c.in-Err-Left.ensures in
    let le = (damaged-at (g.S.Spelled.format c.args.context) (g.S.Spelled.writing c.args.context) c.args.bytes.now
    c.in-Err-Left.left e).0 in
    (c.in-Err-Left.left, e, omega (arith, le))
