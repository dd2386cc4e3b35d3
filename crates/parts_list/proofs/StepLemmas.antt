-- The items of a slot are read one after another.
use Rattle.std.proofs.Common.{◌≡◌, ℕ, List, [], ◌∷◌, ◌∙◌, ap}
use Rattle.std.specs.Int.{w16, w32, w64}
use Rattle.byte_format.specs.Format.{Format, value, followed, many, front, ◌>>=◌}
use Rattle.byte_format.specs.Items.{number, number_that}
use Rattle.byte_format.proofs.Cases.{bind_same}
use Rattle.byte_format.proofs.Readings.{front-followed}
use Rattle.parts_list.specs.declared.list.Entry.{Entry}
use Rattle.parts_list.specs.declared.list.List.{List as Listing}
use Rattle.parts_list.specs.Format.{these_bytes, magic, is_version, entry, counted_entries, listing, slot_format}
use Rattle.parts_list.specs.Listing.{is_generation, is_front, is_next_file, is_file_below}
use Rattle.parts_list.specs.Steps.{entry_steps, counted_steps, listing_steps, slot_steps}

pub entry-steps : (next : ℕ) (bytes : List ℕ) → front (entry next) bytes ≡ entry_steps next bytes
unfolding entry entry_steps
entry-steps next bytes =
    front-followed (number w32) (λ day. followed (number_that w64 (is_file_below next)) (λ file.
    followed (number w64) (λ bytes. value (record { day = day; file = file; bytes = bytes })))) bytes
    ∙ bind_same (front (number w32) bytes) _ _ (λ day.
    front-followed (number_that w64 (is_file_below next)) (λ file. followed (number w64) (λ bytes.
    value (record { day = day.0; file = file; bytes = bytes }))) day.1
    ∙ bind_same (front (number_that w64 (is_file_below next)) day.1) _ _ (λ file.
    front-followed (number w64) (λ bytes. value (record { day = day.0; file = file.0; bytes = bytes })) file.1))

counted-steps : (next : ℕ) (bytes : List ℕ) → front (counted_entries next) bytes ≡ counted_steps next bytes
unfolding counted_entries counted_steps
counted-steps next bytes = front-followed (number w32) (λ count. many count (entry next)) bytes

-- the list of these numbers and entries
abbrev listed : ℕ → ℕ → ℕ → List Entry → Format Listing
listed generation batches next entries =
    value (record { generation = generation; front = batches; next_file = next; entries = entries })

listing-steps : (bytes : List ℕ) → front listing bytes ≡ listing_steps bytes
unfolding listing listing_steps
listing-steps bytes =
    front-followed (number_that w64 is_generation) (λ generation. followed (number_that w64 is_front) (λ batches.
    followed (number_that w64 is_next_file) (λ next. followed (counted_entries next)
    (listed generation batches next)))) bytes
    ∙ bind_same (front (number_that w64 is_generation) bytes) _ _ (λ generation.
    front-followed (number_that w64 is_front) (λ batches. followed (number_that w64 is_next_file) (λ next.
    followed (counted_entries next) (listed generation.0 batches next))) generation.1
    ∙ bind_same (front (number_that w64 is_front) generation.1) _ _ (λ batches.
    front-followed (number_that w64 is_next_file) (λ next. followed (counted_entries next)
    (listed generation.0 batches.0 next)) batches.1
    ∙ bind_same (front (number_that w64 is_next_file) batches.1) _ _ (λ next.
    front-followed (counted_entries next.0) (listed generation.0 batches.0 next.0) next.1
    ∙ ap (λ r. r >>= λ x. front (listed generation.0 batches.0 next.0 x.0) x.1) (counted-steps next.0 next.1))))

pub slot-steps : (bytes : List ℕ) → front slot_format bytes ≡ slot_steps bytes
unfolding slot_format slot_steps
slot-steps bytes =
    front-followed (these_bytes (1 ∷ [])) (λ gate. followed (these_bytes magic) (λ name.
    followed (number_that w16 is_version) (λ version. listing))) bytes
    ∙ bind_same (front (these_bytes (1 ∷ [])) bytes) _ _ (λ gate.
    front-followed (these_bytes magic) (λ name. followed (number_that w16 is_version) (λ version. listing)) gate.1
    ∙ bind_same (front (these_bytes magic) gate.1) _ _ (λ name.
    front-followed (number_that w16 is_version) (λ version. listing) name.1
    ∙ bind_same (front (number_that w16 is_version) name.1) _ _ (λ version. listing-steps version.1)))
