-- What is told with a granted round stood in the log as the step began, so it stands for the machine's chunk.
use Rattle.std.proofs.Common.{◌≡◌, ℕ, ◌<◌, true, false, List, [], ◌∷◌, refl, sym, ap, subst, ◌∙◌, inl, inr, arith}
use Rattle.std.specs.Prelude.{nat_le, filter, IsTrue}
use Rattle.relaxed_file.specs.Order.{Entry}
use Rattle.protocol.specs.Logged.{Logged}
use Rattle.protocol.specs.World.{WorldState, happens}
use Rattle.laws_base.proofs.MembersRecorded.{place_below}
use Rattle.laws_base.proofs.LeasesStayOver.{reached_later}
use Rattle.laws_versions.proofs.AskedSteps.{IsToldOf}
use Rattle.laws_versions.proofs.ClosedVersions.{clocks_before}
use Rattle.laws_versions.proofs.ToldAnswers.{told_now}
use Rattle.laws_machine.specs.ChunksAlike.{ChunkSides, StandsAt, AreChunksAlike}
use Rattle.laws_machine.proofs.Sides.{listed}
use Rattle.laws_machine.specs.Rounds.{IsLogOf}
use Rattle.laws_machine.specs.HoldersApart.{StandsUpTo}
use Rattle.laws_machine.specs.ToldHolders.{ToldChunksStand}
use Rattle.laws_machine.proofs.PassedRounds.{tells_passed}

-- a chunk of a file in the log stands for itself
pub stands_for_itself : (k : ChunkSides) → AreChunksAlike k → (file index handle : ℕ) → StandsAt k.log.table handle (record { file = file; index = index }) → (version : ℕ) → StandsUpTo k file index handle version
stands_for_itself k alike file index handle at version =
    let found = listed k.log.table handle (record { file = file; index = index }) at in
    let whole = alike.there file found.0 found.1 in
    record {
      count = (let low = place_below found.0 index handle found.2 in let same = whole.count in omega (arith, low, same));
      entries = ap (λ (es : List Entry). filter (λ (entry : Entry). nat_le entry.round version) es) (whole.chunks index handle found.2).2.order;
    }

pub told_chunks_stand : ToldChunksStand
told_chunks_stand config servers clients w r e choice clocks k log alike client file l place t from = (
  subst (λ (x : Logged). l.handle.0 < x.next_handle) (sym same) ((tells_passed config servers clients w r now.0 file l now.1).up now.0).0.0,
  stands_for_itself k alike file l.index l.handle.0 (subst (λ (x : Logged). StandsAt x.table l.handle.0 (record { file = file; index = l.index })) (sym same) (now.1).stood),
)
  where
    then_ : WorldState
    then_ = (happens w e choice).world

    now : IsTrue w.master.up × IsToldOf w.master.logged file l
    now = told_now config servers clients (happens w e choice).world (reached_later config servers clients w ((e, choice) ∷ []) r) w r (clocks_before w ((e, choice) ∷ []) clocks) (e, choice) [] refl client file l place t from t.sent_is

    same : k.log ≡ w.master.logged
    same = by_log log
      where
        by_log : IsLogOf w.master k.log → k.log ≡ w.master.logged
        by_log (inl here) = here.1
        by_log (inr down) = absurd (let both : true ≡ false = sym now.0 ∙ down.0 in cc)
