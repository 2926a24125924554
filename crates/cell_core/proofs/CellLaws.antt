-- What is true of each reached world is true of what a cell holds that stands for it.
use Rattle.std.proofs.Common.{◌≡◌, ◌≤◌, ◌<◌, ◌+◌, ℕ, cond, List, [], ◌∷◌, ◌++◌, length, refl, sym, subst, ap, ◌∙◌}
use Rattle.std.specs.Prelude.{IsTrue, fold}
use Rattle.relaxed_file.specs.Names.{IsTree}
use Rattle.messages.specs.declared.message.Message.{Message}
use Rattle.protocol.specs.Tables.{element_at}
use Rattle.protocol.specs.Logged.{all_copies_given_up, replayed}
use Rattle.protocol.specs.Server.{ServerState}
use Rattle.protocol.specs.Master.{MasterState}
use Rattle.protocol.specs.World.{WorldState}
use Rattle.laws_base.specs.Laws.{HaveSameNames, HoldsLastingLease, chunk_but_end, grants_of, is_grant}
use Rattle.laws_base.proofs.GrantsOnce.{versions_are_granted_once}
use Rattle.laws_base.proofs.LastingLeases.{one_lease_lasts}
use Rattle.laws_base.proofs.NamesLogged.{master_names_are_a_tree, log_has_the_names, log_has_the_files, log_has_the_chunks}
use Rattle.protocol_journal.specs.Rebased.{all_raised}
use Rattle.cell_world.specs.Held.{HeldCell}
use Rattle.cell_core.specs.Standing.{StandsFor, HasReachedWorld}
use Rattle.cell_core.specs.CellLaws.{GrantsVersionsOnce, HoldsLeaseAfter, HasOneLasting, HasTreeOfNames, LogHasAll}

-- a message's number doesn't count
abbrev counted : ℕ → ℕ → ℕ → List Message → ℕ
counted handle version n ms = fold (λ (count : ℕ) (m : Message). count + cond (is_grant handle version m.body) 1 0) n ms

counted_raised : (handle version before n : ℕ) (ms : List Message) → counted handle version n (all_raised before ms) ≡ counted handle version n ms
counted_raised handle version before n [] = refl
counted_raised handle version before n (m ∷ ms) = counted_raised handle version before (n + cond (is_grant handle version m.body) 1 0) ms

counted_behind : (handle version before n : ℕ) (earlier own : List Message) → counted handle version n (earlier ++ all_raised before own) ≡ counted handle version n (earlier ++ own)
counted_behind handle version before n [] own = counted_raised handle version before n own
counted_behind handle version before n (m ∷ rest) own = counted_behind handle version before (n + cond (is_grant handle version m.body) 1 0) rest own

grants_behind : (handle version before : ℕ) (earlier own : List Message) → grants_of handle version (earlier ++ all_raised before own) ≡ grants_of handle version (earlier ++ own)
grants_behind handle version before earlier own = counted_behind handle version before 0 earlier own

pub grants_versions_once : (h : HeldCell) → GrantsVersionsOnce h
grants_versions_once h config servers clients w earlier r s handle version =
    let same : grants_of handle version w.sent ≡ grants_of handle version (earlier ++ h.sent) =
    ap (λ (ms : List Message). grants_of handle version ms) s.is_cut.sent_is
    ∙ (grants_behind handle version (length earlier) earlier s.cut.sent ∙ ap (λ (ms : List Message). grants_of handle version (earlier ++ ms)) s.held.sent) in
    subst (λ (n : ℕ). n ≤ 1) same (versions_are_granted_once config servers clients w r handle version)

same_servers : (w : WorldState) (earlier : List Message) (h : HeldCell) → StandsFor w earlier h → w.servers ≡ h.servers
same_servers w earlier h s = ap (λ (v : WorldState). v.servers) s.is_cut.but_sent ∙ s.held.servers

lasting : (w : WorldState) (earlier : List Message) (h : HeldCell) → StandsFor w earlier h → (index handle : ℕ) (a : HoldsLeaseAfter h h.greatest index handle) → HoldsLastingLease w index handle a.lease
lasting w earlier h s index handle a =
    let greatest : w.observer.greatest ≡ h.greatest = ap (λ (v : WorldState). v.observer.greatest) s.is_cut.but_sent ∙ s.held.greatest in
    (a.server, ap (λ (all : List ServerState). element_at all index) (same_servers w earlier h s) ∙ a.is_there, a.is_held, subst (λ (n : ℕ). n < a.lease.held.until) (sym greatest) a.lasts)

pub has_one_lasting : (h : HeldCell) → HasOneLasting h
has_one_lasting h config servers clients w earlier r s kept index other handle a b =
    one_lease_lasts config servers clients w r kept index other handle a.lease b.lease (lasting w earlier h s index handle a) (lasting w earlier h s other handle b)

-- the master, but for what was under way
left : (w : WorldState) (earlier : List Message) (h : HeldCell) (s : StandsFor w earlier h) → w.master ≡ record h.master { under_way = s.cut.master.under_way }
left w earlier h s = ap (λ (v : WorldState). v.master) s.is_cut.but_sent ∙ sym s.held.master.but_under_way

pub has_tree_of_names : (h : HeldCell) → HasReachedWorld h → HasTreeOfNames h
has_tree_of_names h s =
    subst (λ (m : MasterState). IsTrue m.up → IsTree m.logged.names) (left s.world s.earlier h s.stands) (master_names_are_a_tree s.config s.servers s.clients s.world s.reached)

pub log_has_all : (h : HeldCell) → HasReachedWorld h → LogHasAll h
log_has_all h s up =
    let same = left s.world s.earlier h s.stands in
    record {
      names = subst (λ (m : MasterState). IsTrue m.up → HaveSameNames m.logged (replayed m.disk)) same (log_has_the_names s.config s.servers s.clients s.world s.reached) up;
      files = subst (λ (m : MasterState). IsTrue m.up → m.logged.table.files ≡ (replayed m.disk).table.files) same (log_has_the_files s.config s.servers s.clients s.world s.reached) up;
      chunks = subst (λ (m : MasterState). IsTrue m.up → (handle : ℕ) → chunk_but_end (all_copies_given_up m.logged).table handle ≡ chunk_but_end (replayed m.disk).table handle) same
          (log_has_the_chunks s.config s.servers s.clients s.world s.reached) up;
    }
