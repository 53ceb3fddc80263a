-- What is said of a solver's answer, case by case: this project.
use Rattle.std.specs.Prelude.{Bool, List}
use Rattle.cnf_core.specs.declared.line.Line.{Line}
use Rattle.sat_core.specs.declared.solver.Verdict.{Verdict}
use Rattle.sat_core.specs.declared.solver.Verdict.TheVariants.{Sat, Refuted, Spent}

-- of the values, where there are some
abbrev pub IfSat : Verdict → (List Bool → Type 0) → Type 0
IfSat (Sat values) P = P values
IfSat (Refuted lines) P = Unit {0}
IfSat (Spent lines) P = Unit {0}

-- of the lines of a refutation
abbrev pub IfRefuted : Verdict → (List Line → Type 0) → Type 0
IfRefuted (Sat values) P = Unit {0}
IfRefuted (Refuted lines) P = P lines.lines
IfRefuted (Spent lines) P = Unit {0}

-- of the lines of a spent budget
abbrev pub IfSpent : Verdict → (List Line → Type 0) → Type 0
IfSpent (Sat values) P = Unit {0}
IfSpent (Refuted lines) P = Unit {0}
IfSpent (Spent lines) P = P lines.lines
