use Rattle.std.proofs.Common.{◌≡◌, ◌++◌, ◌∙◌, ℕ, ℤ, List, ap, sym, of_z, w64}
use Rattle.std.specs.List.{flat_map}
use Rattle.std.specs.Int.{byte_len, to_le_bytes}
use Rattle.std.proofs.lemmas.Int.{to_z-of_z}
use Rattle.col_codec.specs.Ints.{int_spelling, put_int, spelled, widest, width_for}
use Rattle.col_codec.specs.Lanes.{ints_in, numbers_in, width_of}
use Rattle.col_codec.specs.Widths.{bits_of}
use Rattle.col_codec.specs.declared.width.IntWidth.{IntWidth}
use Rattle.col_codec.proofs.LaneLaws.{sums-spelled}
use Rattle.col_codec.proofs.Loops.{spelled-joined}
use Rattle.col_codec.proofs.int_write.put_ints.Goals as goal

pub returns : goal.returns
unfolding int_spelling
returns c =
    let l = to_z-of_z w64 c.args.least c.ranges.least in
    let le : c.to_le_bytes.result ≡ to_le_bytes w64 (of_z w64 c.args.least) = simp l at c.to_le_bytes.ensures in
    let width = width_of c.args.lanes.now in
    let ints = ints_in c.args.least c.args.lanes.now in
    let last : c.put_lanes.new.out.items ≡ c.extend_from_slice.new.self.items ++ flat_map (put_int
    (bits_of (width_of c.args.lanes.now)) c.args.least) (ints_in c.args.least c.args.lanes.now) =
    c.in_ok-put_lanes.ensures ∙ ap (λ (b : List ℕ). c.extend_from_slice.new.self.items ++ b) (sym (sums-spelled
    (bits_of (width_of c.args.lanes.now)) c.args.least (numbers_in c.args.lanes.now))) in
    spelled-joined (width_of c.args.lanes.now) c.args.least (ints_in c.args.least c.args.lanes.now) c.args.out.now.items
    c.push.new.self.items c.extend_from_slice.new.self.items c.put_lanes.new.out.items c.to_le_bytes.result
    c.len_of.result (c.len_of.ensures ∙ ap (λ (w : IntWidth). byte_len (bits_of w)) c.width_of.ensures) le
    c.in_ok-push.ensures.items c.in_ok-extend_from_slice.ensures.items last
    ∙ ap (λ (w : IntWidth). c.args.out.now.items ++ spelled w c.args.least ints) c.requires.width
    ∙ ap (λ (m : ℤ). c.args.out.now.items ++ spelled (width_for (widest m ints)) m ints) c.requires.least
