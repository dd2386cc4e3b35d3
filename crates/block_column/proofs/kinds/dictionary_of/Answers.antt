use Rattle.std.proofs.Common.{◌≡◌, ℕ, List, Bor, map, refl}
use Rattle.block_model.specs.Distinct.{code_of}
use Rattle.block_model.proofs.Distinct.{listed-by}
use Rattle.block_model.proofs.Rising.{distinct-rising}
use Rattle.block_column.proofs.KindLaws.{IsDictionary, first-dictionary}
use Rattle.block_column.proofs.kinds.dictionary_of.Goals as goal

abbrev now_of : Bor (List ℕ) → List ℕ
now_of t = t.now

pub codes_of-requires-clause-few : goal.codes_of-requires-clause-few
codes_of-requires-clause-few c =
    let ts = map now_of c.args.values.now in
    (first-dictionary ts c.args.texts.now (map (code_of c.args.texts.now) ts) c.requires.one c.requires.none
    c.requires.fits c.requires.texts refl).few

pub codes_of-requires-clause-listed : goal.codes_of-requires-clause-listed
codes_of-requires-clause-listed c k d lt = rw c.requires.texts (listed-by now_of c.args.values.now k d lt)

pub codes_of-requires-clause-rising : goal.codes_of-requires-clause-rising
codes_of-requires-clause-rising c = rw c.requires.texts (distinct-rising (map now_of c.args.values.now))

pub held_texts-requires-clause-few : goal.held_texts-requires-clause-few
held_texts-requires-clause-few c =
    let ts = map now_of c.args.values.now in
    (first-dictionary ts c.args.texts.now (map (code_of c.args.texts.now) ts) c.requires.one c.requires.none
    c.requires.fits c.requires.texts refl).few

pub held_texts-requires-clause-short : goal.held_texts-requires-clause-short
held_texts-requires-clause-short c =
    let ts = map now_of c.args.values.now in
    (first-dictionary ts c.args.texts.now (map (code_of c.args.texts.now) ts) c.requires.one c.requires.none
    c.requires.fits c.requires.texts refl).short

pub returns-clause-texts : goal.returns-clause-texts
returns-clause-texts c =
    let ts = map now_of c.args.values.now in
    let d = first-dictionary ts c.args.texts.now (map (code_of c.args.texts.now) ts) c.requires.one c.requires.none
    c.requires.fits c.requires.texts refl in
    let made : IsDictionary ts c.in_ok-held.held c.in_ok-codes.codes.items =
    rw (c.in_ok-held.ensures, c.in_ok-codes.ensures) d in
    made.texts

pub returns-clause-first : goal.returns-clause-first
returns-clause-first c =
    let ts = map now_of c.args.values.now in
    let d = first-dictionary ts c.args.texts.now (map (code_of c.args.texts.now) ts) c.requires.one c.requires.none
    c.requires.fits c.requires.texts refl in
    let made : IsDictionary ts c.in_ok-held.held c.in_ok-codes.codes.items =
    rw (c.in_ok-held.ensures, c.in_ok-codes.ensures) d in
    record { codes = made.below; narrow = (made.few, made.short); each = made.each; kind = made.kind; body = made.body }
