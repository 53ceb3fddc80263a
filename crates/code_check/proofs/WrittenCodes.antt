-- A form that writes a code has no fault, and writes that code alone.
use Rattle.std.proofs.Common.{◌≡◌, ◌≢◌, ℕ, ℤ, zero, suc, ◌<◌, ◌≤◌, ◌^◌, Bool, true, false, All, Option, None, Some, List, [], ◌∷◌, length, take, drop, get_or, bytes_eq, codes, refl, sym, ap, ap₂, ◌∙◌, subst, arith, slice_get, inl, inr}
use Rattle.std.specs.Prelude.{AllPairs, Contains, is_some, not}
use Rattle.std.specs.List.{HoldsAt, list_any}
use Rattle.std.specs.Option.{option_map_or}
use Rattle.std.proofs.lemmas.Bool.{and_left, and_right, cases_Bool, false_from_ne_true, not_from_true, or_cases}
use Rattle.std.proofs.lemmas.List.{length-take-le}
use Rattle.std.proofs.lemmas.List.Folds.{list_any_none}
use Rattle.std.proofs.lemmas.List.Elements.{All-get_or, at_from_Contains}
use Rattle.std.proofs.lemmas.Option.{get_or_from_slice_get, same_Some, slice_get-get_or, slice_get_within}
use Rattle.std.proofs.lemmas.Slice.Eq.{bytes_eq-Decides}
use Rattle.text_core.specs.Names.{is_among}
use Rattle.forms.specs.Forms.{Form, list, parts_of, forms_from, name_in, number_in, is_list}
use Rattle.machine_table.specs.Grammar.{Each, IsListOf, IsNameOf, IsNumberOf}
use Rattle.alpha_encode.specs.Decoded.{decoded}
use Rattle.alpha_encode.specs.declared.instructions.Instr.{Instr}
use Rattle.alpha_encode.specs.declared.instructions.Instr.TheVariants.{Operate, Lda, Ldah, Load, Store, Ldq, Stq, Beq}
use Rattle.alpha_machine.specs.Runs.{MayStandAt}
use Rattle.goal_meaning.specs.Outcomes.{is_memory}
use Rattle.goal_meaning.specs.Views.{GoalTree, TargetTree}
use Rattle.goal_reader.specs.Grammar.{IsRegister}
use Rattle.code_check.specs.CodeGrammar.{WritesCode, WritesPlace}
use Rattle.code_check.specs.CodeReading.{ArePlacesClear, IsClearCode}
use Rattle.code_check.specs.CodeRoles.{CodeRole, a_code, a_word, word_list, IsCodeFaultAs, goal_named, has_no_place, is_branch, is_branch_word, lacks_place, places_in, sets_in, targets_named}
use Rattle.code_check.specs.Codes.{IsWordTarget}
use Rattle.code_check.specs.Compared.{branch_of}
use Rattle.code_check.specs.Outcomes.{IsCode}
use Rattle.code_check.specs.Same.{IsBranchAt}
use Rattle.code_check.specs.declared.codes.At.{At}
use Rattle.code_check.specs.declared.codes.Code.{Code}
use Rattle.code_check.proofs.FormLists.{each_length, each_once, list_from, name_once, register_once}
use Rattle.code_check.proofs.CodeParts.{code_clear, sets_told}
use Rattle.code_check.proofs.CodePlaces.{among_at, among_found, target_told, written_clear}
use Rattle.code_check.proofs.CodeWords.{word_role, words_own}
use Rattle.code_check.proofs.Growing.{all_clear}
use Rattle.code_check.proofs.Leaves.{goal_name_clear, word_clear}
use Rattle.code_check.proofs.Searches.{each_form, each_item, found_alone, one_place, others_told}
use Rattle.code_check.proofs.Stages.{read_code}

-- ---- words

branch_instr : (o : Option Instr) → is_some (branch_of o) ≡ true → (ra : ℕ) × (disp : ℤ) × (o ≡ Some (Beq ra disp))
branch_instr None e = cc
branch_instr (Some (Beq ra disp)) e = (ra, disp, refl)
branch_instr (Some (Operate op ra second rc)) e = cc
branch_instr (Some (Lda ra rb disp)) e = cc
branch_instr (Some (Ldah ra rb disp)) e = cc
branch_instr (Some (Load access ra rb disp)) e = cc
branch_instr (Some (Store access ra rb disp)) e = cc
branch_instr (Some (Ldq ra rb disp)) e = cc
branch_instr (Some (Stq ra rb disp)) e = cc

module _ (words : List ℕ) (instrs : List Instr) (code : IsCode words instrs) where
  branch_at : (k w : ℕ) → slice_get words k ≡ Some w → is_branch_word w ≡ true → (ra : ℕ) × IsBranchAt instrs k ra
  branch_at k w g b =
      let l = slice_get_within words k w g in
      let i = read_code words instrs code.decode k l in
      let o = branch_instr (decoded w) b in
      let at : decoded w ≡ Some i.0 = ap decoded (sym (get_or_from_slice_get words k w 0 g)) ∙ i.2 in
      (o.0, record { disp = o.1; there = i.1 ∙ sym at ∙ o.2 })

  module _ (form : Form) (fs : List Form) (is : parts_of form ≡ fs) (listed : is_list form ≡ true) (each : Each (λ f n. IsNumberOf n f) fs words) (low : All (λ n. n < 2 ^ 32) words) (few : length words ≤ 4096) where
    count : length (parts_of form) ≡ length words
    count = ap length is ∙ sym (each_length (λ f n. IsNumberOf n f) fs words each)

    -- no branch stands before a branch
    alone : (k w : ℕ) → slice_get words k ≡ Some w → is_branch_word w ≡ true → list_any is_branch (take k (parts_of form)) ≡ false
    alone k w g b = false_from_ne_true (list_any is_branch (take k (parts_of form))) (λ some.
        let one = any_some is_branch k (parts_of form) some in
        let item = each_item (λ f n. IsNumberOf n f) fs words each one.0 one.1 (ap (λ xs. slice_get xs one.0) (sym is) ∙ one.3) in
        let told : is_branch_word item.0 ≡ true = sym (branch_told one.1 item.0 item.2) ∙ one.4 in
        let first = branch_at one.0 item.0 item.1 told in
        let second = branch_at k w g b in
        let same = code.one_branch one.0 k first.0 second.0 first.1 second.1 in
        let before = one.2 in
        omega (arith, same, before))
      where
        branch_told : (f : Form) (n : ℕ) → IsNumberOf n f → is_branch f ≡ is_branch_word n
        branch_told f n h = ap (λ o. option_map_or is_branch_word o false) (ap number_in h.is)

        any_some : {X : Type 0} (p : X → Bool) (n : ℕ) (xs : List X) → list_any p (take n xs) ≡ true → (j : ℕ) × (x : X) × (j < n) × (slice_get xs j ≡ Some x) × (p x ≡ true)
        any_some p zero xs e = cc
        any_some p (suc n) [] e = cc
        any_some p (suc n) (x ∷ xs) e = elim (or_cases (p x) (list_any p (take n xs)) e) [
          | inl t ↦ (0, x, omega arith, refl, t)
          | inr h ↦ (let r = any_some p n xs h in let l = r.2 in (suc r.0, r.1, omega (arith, l), r.3, r.4))
        ]

    -- a list of numbers that are a code has no fault
    pub word_list_clear : IsClearCode word_list form
    word_list_clear = all_clear word_list form (length words) (words_own form listed) (let c = count in omega (arith, c)) (λ k part other place kind l g e fault.
        let item = each_item (λ f n. IsNumberOf n f) fs words each k part (ap (λ xs. slice_get xs k) (sym is) ∙ g) in
        let n = item.0 in
        let l2 = slice_get_within words k n item.1 in
        let role = same_Some (a_word (length (parts_of form)) (take k (parts_of form))) other (sym (word_role form k (omega (arith, l, few))) ∙ e) in
        let before : length (take k (parts_of form)) ≡ k = length-take-le k (parts_of form) (let c = count in omega (arith, c, l)) in
        let stands : MayStandAt (length (parts_of form)) (length (take k (parts_of form))) n =
        subst (λ m. MayStandAt m (length (take k (parts_of form))) n) (sym count) (subst (λ m. MayStandAt (length words) m n) (sym before) (code.stand k n item.1)) in
        let small : n < 2 ^ 32 = subst (λ m. m < 2 ^ 32) (get_or_from_slice_get words k n 0 item.1) (All-get_or (λ m. m < 2 ^ 32) words k 0 l2 low) in
        word_clear (length (parts_of form)) (take k (parts_of form)) part n (ap number_in item.2.is) small stands (λ b. alone k n item.1 b) place kind
        (subst (λ (r : CodeRole). IsCodeFaultAs r part place kind) (sym role) fault))

-- ---- places

module _ (sets : List TargetTree) (pairs : AllPairs (λ (s t : TargetTree). s.name ≢ t.name) sets) (forms : List Form) (places : List At) (each : Each (WritesPlace sets) forms places)
    (differ : AllPairs (λ (p q : At). p.set ≢ q.set) places) where
  -- a place is of another target than those before
  fresh : (k : ℕ) (form : Form) (p : At) (w : WritesPlace sets form p) → slice_get forms k ≡ Some form → slice_get places k ≡ Some p → is_among (targets_named (take k forms)) w.target.name ≡ false
  fresh k form p w g h = false_from_ne_true (is_among (targets_named (take k forms)) w.target.name) (λ t.
      let one = among_at forms k w.target.name t in
      let item = each_item (WritesPlace sets) forms places each one.0 one.1 one.3 in
      let v = item.2 in
      let names : v.target.name ≡ w.target.name = same_Some v.target.name w.target.name (sym (target_told sets one.1 item.0 v) ∙ one.4) in
      let same : item.0.set ≡ p.set = one_place (λ (x : TargetTree). x.name) sets pairs item.0.set p.set v.target w.target v.there w.there names in
      let before = one.2 in
      let l = slice_get_within places k p h in
      differ one.0 k p before l (ap (λ (q : At). q.set) (get_or_from_slice_get places one.0 item.0 p item.1) ∙ same ∙ ap (λ (q : At). q.set) (sym (get_or_from_slice_get places k p p h))))

  pub all_clear_places : ArePlacesClear sets forms (length forms)
  all_clear_places k form l g =
      let item = each_item (WritesPlace sets) forms places each k form g in
      written_clear sets form item.0 item.2 (take k forms) pairs (fresh k form item.0 item.2 g item.1)

  pub none_lacks : ((i : ℕ) → IsWordTarget sets i → (reg : ℕ) × Contains places (record { set = i; reg = reg })) → lacks_place sets forms ≡ false
  none_lacks has = list_any_none (has_no_place forms) sets (λ i d l. by_sort i d l)
    where
      by_sort : (i : ℕ) (d : TargetTree) → i < length sets → has_no_place forms (get_or sets i d) ≡ false
      by_sort i d l =
          let t = get_or sets i d in
          elim (cases_Bool (is_memory t)) [
            | inl m ↦ and_left (not (is_memory t)) (not (is_among (targets_named forms) t.name)) (not_from_true (is_memory t) m)
            | inr w ↦
                (let there = slice_get-get_or sets i d l in
                let place = has i (record { target = t; there = there; is_word = w }) in
                let k = at_from_Contains places (record { set = i; reg = place.0 }) place.1 in
                and_right (not (is_memory t)) (not (is_among (targets_named forms) t.name)) (not_from_true (is_among (targets_named forms) t.name) (named i t there k.0 place.0 k.1 k.2)))
          ]
        where
          named : (i : ℕ) (t : TargetTree) → slice_get sets i ≡ Some t → (k reg : ℕ) → k < length places → HoldsAt (λ y. y ≡ record { set = i; reg = reg }) places k → is_among (targets_named forms) t.name ≡ true
          named i t there k reg l2 holds =
              let p : At = record { set = i; reg = reg } in
              let got : slice_get places k ≡ Some p = slice_get-get_or places k p l2 ∙ ap Some (holds p) in
              let f = each_form (WritesPlace sets) forms places each k p got in
              let w = f.2 in
              let same : w.target ≡ t = same_Some w.target t (sym w.there ∙ there) in
              among_found forms k f.0 t.name f.1 (target_told sets f.0 p w ∙ ap (λ (x : TargetTree). Some x.name) same)

-- ---- the whole code

module _ (goals : List GoalTree) (names : AllPairs (λ (g h : GoalTree). g.name ≢ h.name) goals) where
  goal_alone : (g : GoalTree) (i : ℕ) → slice_get goals i ≡ Some g → goal_named goals g.name ≡ Some g
  goal_alone g i there =
      found_alone (λ (x : GoalTree). bytes_eq x.name g.name) (λ (x : GoalTree). x.name)
      (λ x y a b. (bytes_eq-Decides x.name g.name).0 a ∙ sym ((bytes_eq-Decides y.name g.name).0 b)) goals names i g there ((bytes_eq-Decides g.name g.name).1 refl)

  module _ (form : Form) (code : Code) (w : WritesCode goals form code) (pairs : AllPairs (λ (s t : TargetTree). s.name ≢ t.name) w.goal.sets) where
    pub written_code_clear : IsClearCode (a_code goals) form
    written_code_clear =
        let parts = ap parts_of w.is.is in
        let behind : places_in form ≡ w.places = ap (drop 3) parts ∙ list_from w.places in
        let g1 : slice_get (parts_of form) 1 ≡ Some w.name_form = ap (λ xs. slice_get xs 1) parts in
        let g2 : slice_get (parts_of form) 2 ≡ Some (list w.words_place (forms_from w.words)) = ap (λ xs. slice_get xs 2) parts in
        let found = goal_alone w.goal code.goal w.of_goal in
        let name : name_in w.name_form ≡ Some w.goal.name = ap name_in w.named.is in
        let sets : sets_in goals form ≡ w.goal.sets = sets_told goals form w.name_form g1 w.goal.name w.goal name found in
        let fits = w.fits in
        let enough : 3 ≤ length (parts_of form) = (let n = ap length parts in omega (arith, n)) in
        let lacks : lacks_place (sets_in goals form) (places_in form) ≡ false =
        ap₂ (λ (s : List TargetTree) (fs : List Form). lacks_place s fs) sets behind ∙ none_lacks w.goal.sets pairs w.places code.places w.each_place fits.places.differ fits.places.each in
        let clear = all_clear_places w.goal.sets pairs w.places code.places w.each_place fits.places.differ in
        let each : ArePlacesClear (sets_in goals form) (places_in form) (length (places_in form)) =
        subst (λ (s : List TargetTree). ArePlacesClear s (places_in form) (length (places_in form))) (sym sets) (subst (λ (fs : List Form). ArePlacesClear w.goal.sets fs (length fs)) (sym behind) clear) in
        code_clear goals form enough w.name_form g1 lacks (goal_name_clear goals w.name_form w.goal.name w.goal name found)
        (list w.words_place (forms_from w.words)) g2
        (word_list_clear code.words fits.instrs fits.is_code (list w.words_place (forms_from w.words)) w.words (list_from w.words) refl w.each_word w.low fits.few) each

  -- ---- a form writes one code

  place_of_parts : ℕ → ℕ → At
  place_of_parts s r = record { set = s; reg = r }

  place_back : (p : At) → place_of_parts p.set p.reg ≡ p
  unfolding place_of_parts
  place_back p = refl

  place_once : (sets : List TargetTree) → AllPairs (λ (s t : TargetTree). s.name ≢ t.name) sets → (form : Form) (p q : At) → WritesPlace sets form p → WritesPlace sets form q → p ≡ q
  place_once sets pairs form p q v w =
      let names : v.target.name ≡ w.target.name = same_Some v.target.name w.target.name (sym (target_told sets form p v) ∙ target_told sets form q w) in
      let set : p.set ≡ q.set = one_place (λ (x : TargetTree). x.name) sets pairs p.set q.set v.target w.target v.there w.there names in
      let seconds : v.second ≡ w.second = second_same (codes "at") v.first v.second w.first w.second form v.is w.is in
      let reg : p.reg ≡ q.reg = register_once w.second p.reg q.reg (subst (λ (f : Form). IsRegister p.reg f) seconds v.placed) w.placed in
      sym (place_back p) ∙ ap₂ place_of_parts set reg ∙ place_back q
    where
      second_same : (word : List ℕ) (a b c d : Form) (f : Form) → IsListOf word (a ∷ b ∷ []) f → IsListOf word (c ∷ d ∷ []) f → b ≡ d
      second_same word a b c d f v w = (let e : a ∷ b ∷ [] ≡ c ∷ d ∷ [] = sym (others_told word (a ∷ b ∷ []) f v) ∙ others_told word (c ∷ d ∷ []) f w in cc)

  code_of_parts : ℕ → List ℕ → List At → Code
  code_of_parts g ws ps = record { goal = g; words = ws; places = ps }

  code_back : (c : Code) → code_of_parts c.goal c.words c.places ≡ c
  unfolding code_of_parts
  code_back c = refl

  three_same : (a b c d : Form) (fs gs : List Form) → a ∷ b ∷ fs ≡ c ∷ d ∷ gs → (a ≡ c) × (b ≡ d) × (fs ≡ gs)
  three_same a b c d fs gs e = (let first : a ≡ c = cc in let second : b ≡ d = cc in let rest : fs ≡ gs = cc in (first, second, rest))

  list_same : (p q : ℕ) (fs gs : List Form) → list p (forms_from fs) ≡ list q (forms_from gs) → fs ≡ gs
  list_same p q fs gs e = sym (list_from fs) ∙ ap parts_of e ∙ list_from gs

  pub code_once : All (λ (g : GoalTree). AllPairs (λ (s t : TargetTree). s.name ≢ t.name) g.sets) goals → (form : Form) (c d : Code) → WritesCode goals form c → WritesCode goals form d → c ≡ d
  code_once pairs form c d v w =
      let parts = three_same v.name_form (list v.words_place (forms_from v.words)) w.name_form (list w.words_place (forms_from w.words)) v.places w.places
      (sym (others_told (codes "code") (v.name_form ∷ list v.words_place (forms_from v.words) ∷ v.places) form v.is)
      ∙ others_told (codes "code") (w.name_form ∷ list w.words_place (forms_from w.words) ∷ w.places) form w.is) in
      let named : v.goal.name ≡ w.goal.name = name_once w.name_form v.goal.name w.goal.name (subst (λ (f : Form). IsNameOf v.goal.name f) parts.0 v.named) w.named in
      let goal : c.goal ≡ d.goal = one_place (λ (g : GoalTree). g.name) goals names c.goal d.goal v.goal w.goal v.of_goal w.of_goal named in
      let goals_same : v.goal ≡ w.goal = same_Some v.goal w.goal (sym v.of_goal ∙ ap (slice_get goals) goal ∙ w.of_goal) in
      let words : c.words ≡ d.words = each_once (λ f n. IsNumberOf n f) number_once w.words c.words d.words
      (subst (λ (fs : List Form). Each (λ f n. IsNumberOf n f) fs c.words) (list_same v.words_place w.words_place v.words w.words parts.1) v.each_word) w.each_word in
      let l = slice_get_within goals d.goal w.goal w.of_goal in
      let own : AllPairs (λ (s t : TargetTree). s.name ≢ t.name) w.goal.sets =
      subst (λ (g : GoalTree). AllPairs (λ (s t : TargetTree). s.name ≢ t.name) g.sets) (get_or_from_slice_get goals d.goal w.goal w.goal w.of_goal)
      (All-get_or (λ (g : GoalTree). AllPairs (λ (s t : TargetTree). s.name ≢ t.name) g.sets) goals d.goal w.goal l pairs) in
      let places : c.places ≡ d.places = each_once (WritesPlace w.goal.sets) (λ f p q a b. place_once w.goal.sets own f p q a b) w.places c.places d.places
      (subst (λ (g : GoalTree). Each (WritesPlace g.sets) w.places c.places) goals_same (subst (λ (fs : List Form). Each (WritesPlace v.goal.sets) fs c.places) parts.2 v.each_place)) w.each_place in
      sym (code_back c) ∙ ap (λ n. code_of_parts n c.words c.places) goal ∙ ap₂ (code_of_parts d.goal) words places ∙ code_back d
    where
      number_once : (f : Form) (m n : ℕ) → IsNumberOf m f → IsNumberOf n f → m ≡ n
      number_once f m n a b = same_Some m n (sym (ap number_in a.is) ∙ ap number_in b.is)
