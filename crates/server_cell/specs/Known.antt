-- What is answered at once to an attempt whose number isn't new.
use Rattle.gfs_types.specs.declared.ids.DataId.{DataId}
use Rattle.primary_order.specs.declared.answer.Accept.{Accept}
use Rattle.primary_order.specs.declared.answer.Accept.TheVariants.{New, Again, Pending, Refused}
use Rattle.protocol.specs.Server.{ServerDoing}
use Rattle.protocol.specs.ServerWrites.{answers_settled, refuses_attempt}

abbrev pub answers_known : ServerDoing → DataId → Accept → ServerDoing
answers_known d id (New serial) = d
answers_known d id Pending = d
answers_known d id (Again s) = answers_settled d id s.place
answers_known d id (Refused refusal) = refuses_attempt d id refusal
