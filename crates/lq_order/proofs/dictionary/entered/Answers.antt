use Rattle.std.proofs.Common.{◌≡◌, ◌∙◌, ap, cond, length, map, sym, subst, Some, bytes_eq, arith}
use Rattle.std.proofs.lemmas.List.{length-map, map_push}
use Rattle.lq_order.specs.Dictionary.{AreAtWords, IsAtWord, get_by_str}
use Rattle.lq_order.proofs.Dictionaries.{entered_known, entered_pushed, known_pushed, known_stays, stands_at}
use Rattle.lq_order.proofs.dictionary.entered.Goals as goal

pub returns-in_ok-push-clause-known : goal.returns-in_ok-push-clause-known
returns-in_ok-push-clause-known c =
    let text = c.args.text.now in
    let words = c.args.words.now.items in
    let place : c.in_ok-place.place ≡ length (map (λ word. word.now) words) = omega
    (arith, c.if-place-next.true, c.len-next.ensures, c.args.words.now.ok.0, length-map words (λ word. word.now)) in
    let all = known_pushed c.args.places.now c.number_of.new.numbers (map (λ word. word.now) words) text
    (λ q. c.in_ok-place.ensures.given q
    ∙ ap (λ n. cond (bytes_eq text q) (Some n) (get_by_str c.args.places.now q)) place)
    c.requires in
    subst (AreAtWords c.number_of.new.numbers) (sym (ap (map (λ word. word.now)) c.in_ok-push.ensures.items
    ∙ map_push (λ word. word.now) words c.args.text)) all

pub returns-in_ok-push-clause-entered : goal.returns-in_ok-push-clause-entered
returns-in_ok-push-clause-entered c =
    let text = c.args.text.now in
    let words = c.args.words.now.items in
    let place : length (map (λ word. word.now) words) ≡ c.in_ok-place.place = omega
    (arith, c.if-place-next.true, c.len-next.ensures, c.args.words.now.ok.0, length-map words (λ word. word.now)) in
    subst (IsAtWord (map (λ word. word.now) words) (map (λ word. word.now) c.push.new.self.items) text) place
    (subst (λ more. IsAtWord (map (λ word. word.now) words) more text (length (map (λ word. word.now) words)))
    (sym (ap (map (λ word. word.now)) c.in_ok-push.ensures.items ∙ map_push (λ word. word.now) words c.args.text))
    (entered_pushed (map (λ word. word.now) words) text))

pub returns-else-place-next-clause-known : goal.returns-else-place-next-clause-known
returns-else-place-next-clause-known c =
    let words = map (λ word. word.now) c.args.words.now.items in
    known_stays c.args.places.now c.number_of.new.numbers words c.args.text.now c.in_ok-place.place
    c.in_ok-place.ensures.given
    (stands_at (get_by_str c.args.places.now c.args.text.now) words c.args.text.now c.in_ok-place.place c.len-next.result
    c.in_ok-place.ensures.number (λ e. omega (arith, e, c.if-place-next.false)) (c.requires c.args.text.now))
    c.requires

pub returns-else-place-next-clause-entered : goal.returns-else-place-next-clause-entered
returns-else-place-next-clause-entered c =
    let words = map (λ word. word.now) c.args.words.now.items in
    entered_known words c.args.text.now c.in_ok-place.place
    (stands_at (get_by_str c.args.places.now c.args.text.now) words c.args.text.now c.in_ok-place.place c.len-next.result
    c.in_ok-place.ensures.number (λ e. omega (arith, e, c.if-place-next.false)) (c.requires c.args.text.now))
