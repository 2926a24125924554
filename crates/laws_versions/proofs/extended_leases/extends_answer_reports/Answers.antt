use Rattle.laws_versions.proofs.ExtendLaws.{extends_answer_reports}
use Rattle.laws_versions.proofs.extended_leases.extends_answer_reports.Goals as goal

pub returns : goal.returns
returns c = extends_answer_reports
