-- A write of a begin and a write of a group, under one name: the proofs of a write's stores go by the task, its unit and its bytes.
use Prim.Native.Nat.{ℕ, suc}
use mathlib.Core.Path.{◌≡◌, refl}
use mathlib.Core.List.{List, [], ◌∷◌}
use mathlib.Core.Bool.{Bool, true, false, cond}
use Rattle.model.specs.declared.Plan.{Plan}
use Rattle.model.specs.declared.Direction.{Direction}
use Rattle.model.specs.declared.Phase.{Phase}
use Rattle.model.specs.declared.Phase.TheVariants.{Cold, Ready, Writing, Recovering, Grouping}
use Rattle.model.specs.Groups.{Write, write, write_at, is_last_write}
use Rattle.model.specs.Refusals.{Job, cold, ready, writing, recovering, grouping}
use Rattle.model.specs.Calls.{job_of}
use Rattle.model.specs.Ledger.{count_with}

-- the write of unit u that a begin asked for, or write i of a group
pub data Task : Type 0 where
  alone : ℕ → Task
  part : ℕ → Task

-- with n stores made
abbrev pub job_at : Task → ℕ → Job
job_at (alone u) n = writing u n
job_at (part i) n = grouping i n

abbrev pub phase_at : Task → ℕ → Phase
phase_at (alone u) n = Writing u n
phase_at (part i) n = Grouping i n

-- its unit and bytes by a payload, what counts as passed with it, and the job after its last store
abbrev pub task_write : Plan → List ℕ → Task → Write
task_write p payload (alone u) = write u payload
task_write p payload (part i) = write_at p payload i

abbrev pub counts_for : Plan → List ℕ → Task → List Write
counts_for p payload (alone u) = write u payload ∷ []
counts_for p payload (part i) = count_with p payload i

abbrev pub follows : Plan → List ℕ → Task → Job
follows p payload (alone u) = ready
follows p payload (part i) = cond (is_last_write p payload i) ready (grouping (suc i) 0)

-- a job as a phase, with the direction that a cleanup has
abbrev pub phased : Direction → Job → Phase
phased d cold = Cold
phased d ready = Ready
phased d (writing u made) = Writing u made
phased d (recovering u made) = Recovering u made d
phased d (grouping i made) = Grouping i made

pub job_phased : (d : Direction) (j : Job) → job_of (phased d j) ≡ j
job_phased d cold = refl
job_phased d ready = refl
job_phased d (writing u made) = refl
job_phased d (recovering u made) = refl
job_phased d (grouping i made) = refl

pub phased_task : (d : Direction) (t : Task) (n : ℕ) → phased d (job_at t n) ≡ phase_at t n
phased_task d (alone u) n = refl
phased_task d (part i) n = refl

pub phased_cond : (d : Direction) (b : Bool) (j k : Job) → cond b (phased d j) (phased d k) ≡ phased d (cond b j k)
phased_cond d true j k = refl
phased_cond d false j k = refl
