-- `text_phase::phase_name` meets its contract: each arm's text is the name of its phase.
use Rattle.text_phase.proofs.phase_name.Goals as goal

pub returns-in-Idle : goal.returns-in-Idle
returns-in-Idle c = rw c.in-Idle.is

pub returns-in-Receiving : goal.returns-in-Receiving
returns-in-Receiving c = rw c.in-Receiving.is

pub returns-in-Verifying : goal.returns-in-Verifying
returns-in-Verifying c = rw c.in-Verifying.is

pub returns-in-Staged : goal.returns-in-Staged
returns-in-Staged c = rw c.in-Staged.is

pub returns-in-Failed : goal.returns-in-Failed
returns-in-Failed c = rw c.in-Failed.is
