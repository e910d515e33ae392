-- A head that goes through the C interface and comes back is the same head, whatever it holds; and mirrors of heads and answers to the number.
use mathlib.Core.Path.{◌≡◌, refl, ap}
use mathlib.Core.Bool.{true, false}
use Rattle.columns.specs.Columns.{columns_of, number}
use Rattle.frame.specs.Shape.{shape_of}
use Rattle.job.specs.Job.{no_columns}
use Rattle.job.specs.declared.Phase.{Phase}
use Rattle.job.specs.declared.Phase.TheVariants.{Empty, Shaped, Unfinished, Located}
use Rattle.mirror.specs.Mirror.{phase_of, phase_number, phase_length, phase_alone, ThereAndBack, EmptyMirror, UnfinishedMirror, LocatedMirror}
use Rattle.mirror.specs.Mirror.{AnswerMirrors}

same-phase : (p : Phase) → phase_of (phase_number p) (phase_length p) (phase_alone p) ≡ p
same-phase Empty = refl
same-phase Shaped = refl
same-phase Unfinished = refl
same-phase (Located c true) = refl
same-phase (Located c false) = refl

pub there_and_back : ThereAndBack
there_and_back j =
    ap (λ (p : Phase). record { phase = p; shape = j.shape; columns = j.columns }) (same-phase j.phase)

pub empty_mirror : EmptyMirror
unfolding no_columns columns_of number
empty_mirror = refl

pub unfinished_mirror : UnfinishedMirror
unfolding shape_of no_columns columns_of number
unfinished_mirror = refl

pub located_mirror : LocatedMirror
unfolding shape_of columns_of number
located_mirror = refl

pub answer_mirrors : AnswerMirrors
unfolding no_columns columns_of number
answer_mirrors =
    record {
      answered = λ c t j f. refl;
      unfinished = λ j f. refl;
      refused = λ k j f. refl;
      peeked = λ l. refl;
      peek-refused = λ k. refl;
      searched = λ t. refl;
      search-refused = λ k. refl;
    }
