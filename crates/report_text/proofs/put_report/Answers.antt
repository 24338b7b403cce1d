-- `report_text::put_report` meets its contract: the heading, the hosts' lines and the counts' are written one after the other.
use native.Mathlib.Omega.{arith}
use Rattle.report_text.proofs.Within.{exactly, then_within}
use Rattle.report_text.proofs.put_report.Goals as goal

pub returns : goal.returns
returns c = let all = then_within (omega arith) (then_within (omega arith) (exactly c.put-headed.ensures) c.put_hosts-hosts.ensures) c.put_counts.ensures in
    record { within = omega (arith, all.within); wrote = all.wrote }
