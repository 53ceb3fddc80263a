-- The 20 kinds of fault of a text, how a fault prints, and which of its faults a pass gives. Source: this project.
use Rattle.std.specs.Prelude.{ℕ, ◌≡◌, ◌<◌, ◌≤◌, ◌⊎◌, ⊤, List, ◌++◌, codes, decimal}
use Rattle.std.specs.declared.result.Result.{Result}
use Rattle.std.specs.declared.result.Result.TheVariants.{Ok, Err}
use Rattle.text_core.specs.declared.faults.Kind.{Kind}
use Rattle.text_core.specs.declared.faults.Kind.TheVariants.{BadByte, Unclosed, Unopened, BadNumber, TooDeep, BadForm, UnknownName, Twice, WrongArity, WrongSort, BadRegister, BadAxiom, LimitPassed, BadSlot, BadLatency, OpTwice, BadRow, BadClass, BadLine, BadWord}
use Rattle.text_core.specs.declared.faults.Fault.{Fault}
use Rattle.text_core.specs.declared.faults.TextFault.{TextFault}
use Rattle.text_core.specs.declared.faults.TextFault.TheVariants as answers

abbrev pub fault_number : Kind → ℕ
fault_number BadByte = 1
fault_number Unclosed = 2
fault_number Unopened = 3
fault_number BadNumber = 4
fault_number TooDeep = 5
fault_number BadForm = 6
fault_number UnknownName = 7
fault_number Twice = 8
fault_number WrongArity = 9
fault_number WrongSort = 10
fault_number BadRegister = 11
fault_number BadAxiom = 12
fault_number LimitPassed = 13
fault_number BadSlot = 14
fault_number BadLatency = 15
fault_number OpTwice = 16
fault_number BadRow = 17
fault_number BadClass = 18
fault_number BadLine = 19
fault_number BadWord = 20

abbrev pub kind_name : Kind → List ℕ
kind_name BadByte = codes "BadByte"
kind_name Unclosed = codes "Unclosed"
kind_name Unopened = codes "Unopened"
kind_name BadNumber = codes "BadNumber"
kind_name TooDeep = codes "TooDeep"
kind_name BadForm = codes "BadForm"
kind_name UnknownName = codes "UnknownName"
kind_name Twice = codes "Twice"
kind_name WrongArity = codes "WrongArity"
kind_name WrongSort = codes "WrongSort"
kind_name BadRegister = codes "BadRegister"
kind_name BadAxiom = codes "BadAxiom"
kind_name LimitPassed = codes "LimitPassed"
kind_name BadSlot = codes "BadSlot"
kind_name BadLatency = codes "BadLatency"
kind_name OpTwice = codes "OpTwice"
kind_name BadRow = codes "BadRow"
kind_name BadClass = codes "BadClass"
kind_name BadLine = codes "BadLine"
kind_name BadWord = codes "BadWord"

-- fault PLACE KIND
abbrev pub fault_text : Fault → List ℕ
fault_text f = codes "fault " ++ decimal f.place ++ codes " " ++ kind_name f.kind

-- the first fault isn't behind the second one: by place, and at one place by number
abbrev pub IsNotBehind : ℕ → Kind → ℕ → Kind → Type 0
IsNotBehind place kind other_place other_kind =
    (place < other_place) ⊎ ((place ≡ other_place) × (fault_number kind ≤ fault_number other_kind))

-- A fault of a pass, where `IsAt` says which faults it finds at which place, and no fault of it comes earlier.
pub record IsFirst (IsAt : ℕ → Kind → Type 0) (place : ℕ) (kind : Kind) : Type 0 where
  pub found : IsAt place kind
  pub earliest : (other_place : ℕ) (other_kind : Kind) → IsAt other_place other_kind
      → IsNotBehind place kind other_place other_kind

-- A fault of the text is as stated. Out of memory says nothing of the text.
abbrev pub IsFaultBy : (ℕ → Kind → Type 0) → TextFault → Type 0
IsFaultBy IsAt (answers.Fault fault) = IsAt fault.place fault.kind
IsFaultBy IsAt answers.Memory = ⊤

-- A value as stated is given, unless memory runs out.
abbrev pub GivesUnlessMemory : {X : Type 0} → (X → Type 0) → Result X TextFault → Type 0
GivesUnlessMemory IsIt (Ok x) = IsIt x
GivesUnlessMemory IsIt (Err fault) = fault ≡ answers.Memory

abbrev pub IsFaultOrMemory : ℕ → Kind → TextFault → Type 0
IsFaultOrMemory place kind (answers.Fault fault) = (fault.place ≡ place) × (fault.kind ≡ kind)
IsFaultOrMemory place kind answers.Memory = ⊤

-- The fault is answered, unless memory runs out.
abbrev pub RefusesUnlessMemory : {X : Type 0} → ℕ → Kind → Result X TextFault → Type 0
RefusesUnlessMemory place kind (Ok x) = ⊥
RefusesUnlessMemory place kind (Err fault) = IsFaultOrMemory place kind fault
