-- A query over the batches of a vault.
use Rattle.std.proofs.Common.{◌≡◌, inl, ℕ, ℤ, pos, false, true, List, refl, sym, subst}
use Rattle.std.specs.List.{AllByRecursion}
use Rattle.vl_io.specs.Change.{Change}
use Rattle.log_model.specs.History.{batches_in, rows_of}
use Rattle.log_model.specs.Row.{Batch}
use Rattle.vl_vault.specs.Disk.{Past, content}
use Rattle.part_store.specs.Finds.{FindsParts, HoldsWhole}
use Rattle.part_store.specs.State.{StoreState}
use Rattle.lone_desk.specs.Asked.{IsNoReadableQuery, IsReadableQuery}
use Rattle.lone_desk.specs.Patterns.{CanBeRead, all_patterns}
use Rattle.lone_desk.specs.Query.{IsQueryText, batch_list_rows}
use Rattle.lone_desk.specs.Question.{Question}
use Rattle.lone_desk.specs.Seen.{Seen}
use Rattle.lone_desk.proofs.QueryLemmas.{history_rows}
use Rattle.vl_open.specs.Opening.{HoldsFound, TellsReopening}
use Rattle.vl_pipe.specs.Opened.{IsOpened}
use Rattle.vl_pipe.specs.Stored.{EndsAnswer, EndsOver, EndsQuery, IsQueried, QueryRun}
use Rattle.vl_pipe.specs.VaultChange.{VaultChange}
use Rattle.vl_status.specs.declared.status.Status.{Status}
use Rattle.vl_status.specs.declared.status.Status.TheVariants as statuses

-- The batches that a desk has of a store are those that the vault had.
pub is_opened : {V : Type 0} (told : Type 0) (before : Past) (store : StoreState V) (batches : List Batch)
    → HoldsWhole store batches → (told → HoldsFound before store) → IsOpened told before batches
is_opened told before store batches whole found = record {
  rows = whole.rows;
  found = λ tells. (
    store.parts,
    subst (λ front. FindsParts front store.parts (content before)) (sym whole.whole) (found tells).content,
    whole.are,
  );
}

module _ (told : Type 0) (query : Question) (now : ℕ) (vault : VaultChange) (output errors : Change) where
  -- the store was not opened
  pub unopened : (status : Status)
      → TellsReopening told vault.before vault.faults_before vault.faults_after errors status
      → EndsQuery told query now vault output errors status
  unopened statuses.VaultFault tells = tells
  unopened statuses.Damaged tells = tells
  unopened statuses.NoMemory tells = tells
  unopened statuses.Done tells = absurd tells
  unopened statuses.QueryRefused tells = absurd tells
  unopened statuses.Usage tells = absurd tells
  unopened statuses.ReadFault tells = absurd tells
  unopened statuses.WriteFault tells = absurd tells
  unopened statuses.DoorFault tells = absurd tells
  unopened statuses.Limit tells = absurd tells

  module _ (seen : Seen) (opened : IsOpened told vault.before (batches_in seen.history)) (moment : ℤ)
      (at : moment ≡ pos now) where
    over : (status : Status) → EndsAnswer query moment (rows_of seen.history) output errors status
        → EndsAnswer query (pos now) (batch_list_rows (batches_in seen.history)) output errors status
    over status ends =
        subst (λ m. EndsAnswer query m (batch_list_rows (batches_in seen.history)) output errors status) at
        (subst (λ rows. EndsAnswer query moment rows output errors status)
        (history_rows seen.history (batches_in seen.history) refl) ends)

    ends_over : (status : Status) → EndsAnswer query moment (rows_of seen.history) output errors status
        → EndsOver told query now vault.before output errors status
    ends_over status ends =
        record { batches = batches_in seen.history; opened = opened; ends = over status ends }

    -- the query was asked over the batches of the vault
    pub asked_over : (status : Status) → EndsAnswer query moment (rows_of seen.history) output errors status
        → EndsQuery told query now vault output errors status
    asked_over statuses.Done ends = ends_over statuses.Done ends
    asked_over statuses.QueryRefused ends = ends_over statuses.QueryRefused ends
    asked_over statuses.WriteFault ends = ends_over statuses.WriteFault ends
    asked_over statuses.NoMemory ends = ends
    asked_over statuses.VaultFault ends = absurd ends
    asked_over statuses.Damaged ends = absurd ends
    asked_over statuses.Usage ends = absurd ends
    asked_over statuses.ReadFault ends = absurd ends
    asked_over statuses.DoorFault ends = absurd ends
    asked_over statuses.Limit ends = absurd ends

never : false ≡ true → ⊥
never e = cc

-- how the command ends, where its query can be asked
pub ends_query : (told : Type 0) (run : QueryRun) (status : Status) (text : List ℕ) (query : Question)
    → text ≡ run.text → IsQueryText text query → AllByRecursion CanBeRead (all_patterns query)
    → (IsNoReadableQuery text → false ≡ true)
    → EndsQuery told query run.now run.vault run.output run.errors status → IsQueried told run status
ends_query told run status text query same spelled readable refused ends = inl (record {
  readable = subst IsReadableQuery same (query, spelled, readable);
  askable = λ no. never (refused (subst IsNoReadableQuery (sym same) no));
  query = query;
  spelled = subst (λ text. IsQueryText text query) same spelled;
  ends = ends;
})
