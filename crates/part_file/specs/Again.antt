-- What is written of a part is read again.
use Rattle.std.proofs.Common.{◌≡◌, ℕ, ◌<◌, ◌^◌, Bool, true, List, [], ◌++◌, length, refl, sym, ap, ◌∙◌}
use Rattle.std.proofs.Common.{arith, Ok, Result}
use Rattle.std.specs.Prelude.{bytes_eq, nat_lt}
use Rattle.std.specs.Int.{Width, byte_len, w16, w32, from_le_bytes, to_le_bytes}
use Rattle.std.specs.List.{flat_map, list_all}
use Rattle.std.proofs.lemmas.Bool.{and_parts, ltb-true}
use Rattle.std.proofs.lemmas.List.{append-nil, append_assoc}
use Rattle.std.proofs.lemmas.Nat.{from_le_bytes-to_le_bytes_2, from_le_bytes-to_le_bytes_4}
use Rattle.byte_format.specs.Format.{Format, exactly, followed, front, many, value, whole, ◌>>=◌}
use Rattle.byte_format.specs.Items.{any_number, number_that}
use Rattle.byte_format.specs.Spelling.{IsReadAgain}
use Rattle.byte_format.specs.Windows.{inside}
use Rattle.byte_format.proofs.Cases.{some_from}
use Rattle.byte_format.proofs.Readings.{front-item, whole-followed}
use Rattle.byte_format.proofs.Turns.{many-again}
use Rattle.byte_format.proofs.Windows.{window-again}
use Rattle.log_model.specs.History.{Numbered}
use Rattle.block_format.specs.Reading.{block, has_spelling}
use Rattle.block_format.specs.Spelling.{block_bytes}
use Rattle.block_format.proofs.ReadAgain.{is-written, is_read_again as block-again}
use Rattle.part_model.specs.Filling.{blocks_of}
use Rattle.part_model.specs.Order.{in_order}
use Rattle.part_model.proofs.OrderLaws.{in-order-again}
use Rattle.part_file.specs.Blocks.{blocks_bytes, counted_blocks, sized_block, sized_block_bytes}
use Rattle.part_file.specs.Format.{head_bytes, is_part, is_sized, is_version, magic, part, part_blocks, part_bytes}
use Rattle.part_file.specs.Format.{part_writing, rows_said}
use Rattle.part_file.specs.TestLaws.{each-sized, part-holds, rows-of-blocks, sized-spelled}

-- a number that passes the test
number-step : {A : Type 0} (w : Width) (test : ℕ → Bool) (next : ℕ → Format A) (n : ℕ) (rest : List ℕ)
    → from_le_bytes w (to_le_bytes w n) ≡ n → length (to_le_bytes w n) ≡ byte_len w → test n ≡ true
    → front (followed (number_that w test) next) (to_le_bytes w n ++ rest) ≡ front (next n) rest
number-step w test next n rest back len good =
    front-item (exactly (byte_len w)) (λ bytes. test (from_le_bytes w bytes)) (λ bytes. next (from_le_bytes w bytes))
    (to_le_bytes w n) rest (sym len) (ap test back ∙ good)
    ∙ ap (λ m. front (next m) rest) back

step32 : {A : Type 0} (next : ℕ → Format A) (n : ℕ) (rest : List ℕ) → n < 2 ^ 32
    → front (followed (number_that w32 any_number) next) (to_le_bytes w32 n ++ rest) ≡ front (next n) rest
step32 next n rest fits = number-step w32 any_number next n rest (from_le_bytes-to_le_bytes_4 n fits) refl refl

-- a block after its length
sized-again : (rows : List Numbered) (rest : List ℕ) → is_sized rows ≡ true
    → front sized_block (sized_block_bytes rows ++ rest) ≡ Ok (rows, rest)
unfolding sized_block sized_block_bytes
sized-again rows rest e =
    let p = and_parts (has_spelling rows) (nat_lt (length (block_bytes rows)) (2 ^ 32)) e in
    let read : whole block (block_bytes rows) ≡ Ok rows = block-again rows (block_bytes rows) (is-written rows p.0) in
    ap (front sized_block) (append_assoc (to_le_bytes w32 (length (block_bytes rows))) (block_bytes rows) rest)
    ∙ step32 (λ size. inside size block) (length (block_bytes rows)) (block_bytes rows ++ rest)
    (ltb-true (length (block_bytes rows)) (2 ^ 32) p.1)
    ∙ window-again block (block_bytes rows) rest rows read

blocks-again : (blocks : List (List Numbered)) → list_all is_sized blocks ≡ true → length blocks < 2 ^ 32
    → front counted_blocks (blocks_bytes blocks) ≡ Ok (blocks, [])
unfolding counted_blocks blocks_bytes
blocks-again blocks sized few =
    ap (λ (l : List ℕ). front counted_blocks (to_le_bytes w32 (length blocks) ++ l)) (sym (append-nil (flat_map
    sized_block_bytes blocks)))
    ∙ step32 (λ count. many count sized_block) (length blocks) (flat_map sized_block_bytes blocks ++ []) few
    ∙ many-again sized_block sized_block_bytes (λ rows. is_sized rows ≡ true) sized-again blocks [] (each-sized blocks
    sized)

head-again : (bytes : List ℕ) → front part_blocks (head_bytes ++ bytes) ≡ front counted_blocks bytes
unfolding part_blocks head_bytes
head-again bytes =
    ap (front part_blocks) (append_assoc magic (to_le_bytes w16 1) bytes)
    ∙ front-item (exactly 6) (λ found. bytes_eq found magic) (λ name. followed (number_that w16 is_version) (λ version.
    counted_blocks)) magic (to_le_bytes w16 1 ++ bytes) refl refl
    ∙ number-step w16 is_version (λ version. counted_blocks) 1 bytes (from_le_bytes-to_le_bytes_2 1 (omega arith)) refl
    refl

-- what the blocks of a part say
said-again : (rows : List Numbered) → is_part rows ≡ true → rows_said (blocks_of rows) ≡ rows
unfolding rows_said
said-again rows e =
    let h = part-holds rows e in
    rw (sized-spelled (blocks_of rows) h.sized) (ap in_order (rows-of-blocks rows) ∙ in-order-again rows h.part.ordered)

pub is_read_again : IsReadAgain part part_writing
unfolding part part_bytes
is_read_again rows bytes e =
    let g = some_from (is_part rows) (part_bytes rows) bytes e in
    let h = part-holds rows g.0 in
    ap (whole part) (sym g.1)
    ∙ whole-followed part_blocks (λ (l : List (List Numbered)). value (rows_said l))
    (head_bytes ++ blocks_bytes (blocks_of rows))
    ∙ ap (λ (r : Result (List (List Numbered) × List ℕ) ℕ). r >>= λ x. whole (value (rows_said x.0)) x.1) (head-again
    (blocks_bytes (blocks_of rows)) ∙ blocks-again (blocks_of rows) h.sized h.few)
    ∙ ap (λ (l : List Numbered). Ok l) (said-again rows g.0)
