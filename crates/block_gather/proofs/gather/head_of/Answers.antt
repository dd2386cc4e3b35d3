use Rattle.std.proofs.Common.{◌≡◌, ◌∙◌, ◌-◌, ◌<◌, ℕ, ℤ, List, FitsSigned, ap, arith, get_or, length, of_z}
use Rattle.std.proofs.Common.{pos, refl, rules, subst, sym, to_z, w64}
use Rattle.std.proofs.lemmas.Int.{to_z-of_z}
use Rattle.std.proofs.lemmas.List.{length-map}
use Rattle.log_model.specs.History.{Numbered}
use Rattle.vl_row.specs.Place.{IsInOrder}
use Rattle.block_model.specs.Keys.{key_of, keys_of}
use Rattle.block_model.specs.declared.keys.Key.{Key}
use Rattle.block_body.specs.Outlines.{outline_of, outline_with}
use Rattle.block_body.proofs.OutlineLaws.{extent_with, in-order, outline-is}
use Rattle.block_gather.specs.Picked.{rows_picked}
use Rattle.block_gather.proofs.HeadLaws.{first-time, last-time, no_key, picked-labels, some-picks}
use Rattle.block_gather.proofs.gather.head_of.Goals as goal

pub new-requires : goal.new-requires
new-requires c =
    subst IsInOrder (sym c.requires.columns) (in-order (rows_picked c.args.picks.now) (outline_of (rows_picked
    c.args.picks.now)) refl)

pub returns : goal.returns
returns c =
    let rows : List Numbered = rows_picked c.args.picks.now in
    let first : ℤ = (get_or c.args.keys.now 0 no_key).time in
    let last : ℤ = (get_or c.args.keys.now (length c.args.keys.now - 1) no_key).time in
    let count : length c.args.keys.now ≡ length (rows_picked c.args.picks.now) = ap length c.requires.keys
    ∙ length-map (rows_picked c.args.picks.now) key_of in
    let some : 0 < length (rows_picked c.args.picks.now) = c.requires.block.some in
    let fit_first : FitsSigned w64 (get_or c.args.keys.now 0 no_key).time = search rules in
    let fit_last : FitsSigned w64 (get_or c.args.keys.now (length c.args.keys.now - 1) no_key).time = search rules in
    c.in_ok-head.ensures
    ∙ ap (λ (t : ℤ). outline_with c.in_ok-stream.stream (extent_with t (to_z w64 (of_z w64 last)) (length c.args.keys.now)
    c.args.weight) c.args.columns.items) (to_z-of_z w64 first fit_first)
    ∙ ap (λ (t : ℤ). outline_with c.in_ok-stream.stream (extent_with first t (length c.args.keys.now) c.args.weight)
    c.args.columns.items) (to_z-of_z w64 last fit_last)
    ∙ outline-is rows c.in_ok-stream.stream first last (length c.args.keys.now) c.args.weight c.args.columns.items
    (c.in_ok-stream.ensures ∙ c.stream.ensures.labels
    ∙ sym (picked-labels c.args.picks.now c.index-picks-0.result (some-picks c.args.picks.now some) c.index-picks-0.is
    c.stream.ensures.some))
    (ap (λ (k : List Key). (get_or k 0 no_key).time) c.requires.keys ∙ first-time rows some)
    (ap (λ (n : ℕ). (get_or c.args.keys.now (n - 1) no_key).time) count
    ∙ ap (λ (k : List Key). (get_or k (length rows - 1) no_key).time) c.requires.keys ∙ last-time rows some)
    count c.requires.weight c.requires.columns
