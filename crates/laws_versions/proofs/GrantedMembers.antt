-- Each Grant goes to one of its members: the master names its receiver first.
use Rattle.std.proofs.Common.{◌≡◌, ℕ, true, List, sym, ap, subst, ◌∙◌}
use Rattle.gfs_types.specs.declared.ids.Handle.{Handle}
use Rattle.gfs_types.specs.declared.ids.Moment.{Moment}
use Rattle.gfs_types.specs.declared.ids.OrderNo.{OrderNo}
use Rattle.gfs_types.specs.declared.ids.Version.{Version}
use Rattle.messages.specs.declared.event.NodeInput.{NodeInput}
use Rattle.messages.specs.declared.message.Message.{Message}
use Rattle.protocol.specs.Tables.{has_number}
use Rattle.protocol.specs.Sending.{the_server, server_number}
use Rattle.protocol.specs.Logged.{Logged}
use Rattle.protocol.specs.MasterStep.{master_step}
use Rattle.laws_base.proofs.Words.{true_false}
use Rattle.laws_base.proofs.LeaseOrders.{SaysGrant, says_grant, not_said, grant_members, moved_grant, grant_number}
use Rattle.laws_base.proofs.GrantedIssued.{granted_is_at_most_issued}
use Rattle.laws_base.proofs.MembersRecorded.{all_at}
use Rattle.laws_versions.proofs.MasterCauses.{Attempts, is_caused, Causes, step_caused}
use Rattle.laws_versions.proofs.OrderSteps.{IsOrderedNow, WasOrderedIn, was_ordered_in}
use Rattle.laws_versions.specs.MasterRows.{GrantsGoToMembers}

-- a Grant goes to one of its members
abbrev IsToMember : Message → Type 0
IsToMember x = (order : OrderNo) (handle : Handle) (version : Version) (end_moment : Moment) (members : List ℕ) → SaysGrant order handle version end_moment members x.body → (server : ℕ) → x.receiver ≡ the_server server → has_number members server ≡ true

master_members : (l : Logged) (tried : Attempts) (i : NodeInput) → Causes l tried i IsToMember
master_members l tried i =
    record {
      plain = λ receiver b none order handle version end_moment members is. true_false (sym (ap is_caused is.says) ∙ none);
      extends = λ server line until due order handle version end_moment members is. not_said is tt;
      grants = λ server order q v until chunk ns told has other handle version end_moment members is n same.
          subst (λ (k : ℕ). has_number members k ≡ true) (ap server_number same) (subst (λ (xs : List ℕ). has_number xs server ≡ true) (ap grant_members is.says) has);
      creates = λ server order q v ask raised other handle version end_moment members is. not_said is tt;
      raises = λ server order q v base ask raised other handle version end_moment members is. not_said is tt;
      copies = λ server order q v copy copy_version ask new other handle version end_moment members is. not_said is tt;
    }

pub grants_go_to_members : GrantsGoToMembers
grants_go_to_members config servers clients w r place grant order handle version end_moment members at is server to =
    all_at IsToMember (master_step h.before.master n.moment n.taken n.choice).out.sent (n.said).0 n.word
    (step_caused h.before.master n.moment n.taken n.choice IsToMember (granted_is_at_most_issued config servers clients h.before h.reached) (master_members h.before.master.logged h.before.master.attempts n.taken)) (n.said).1
    order handle version end_moment members (moved_grant (n.same).2 says) server ((n.same).1 ∙ to)
  where
    says : SaysGrant order handle version end_moment members grant.body
    says = says_grant is

    h : WasOrderedIn config servers clients w place grant
    h = was_ordered_in config servers clients w r place grant at order (grant_number says)

    n : IsOrderedNow h.before h.next grant
    n = h.now
