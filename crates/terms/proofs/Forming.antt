-- The conditions of opening, one after the other, for a message that is an announcement. Assumes nothing.
use mathlib.Core.Path.{◌≡◌, refl, sym, ap, ◌∙◌}
use mathlib.Core.Bool.{Bool, true, false, cond, not, ◌&&◌, and_assoc, and-true, and-false}
use mathlib.Core.List.{List}
use mathlib.Core.Option.{some}
use Prim.Native.Nat.{ℕ}
use Rattle.std.proofs.Common.{Option, Some, None, is_some}
use Rattle.calendar.specs.Calendar.{valid_date}
use Rattle.layout.specs.Fields.{readable}
use Rattle.envelope.specs.Refusals.{first_holding}
use Rattle.announcement.specs.declared.Announcement.{Announcement}
use Rattle.announcement.specs.declared.Characteristics.{Characteristics}
use Rattle.announcement.specs.declared.Kind.{Kind}
use Rattle.announcement.specs.Announcement.{layout6_g0, characteristics_in, announcement_of, reading}
use Rattle.rules.specs.Opening.{Admission, is_date, is_time, well_formed, not_announcement, other_origin, malformed_announcement, is_unknown, unknown_type, impossible, impossible_numbers, dates_disordered, opening_refused}
use Rattle.terms.specs.Viewed.{references_formed, dates_formed, dates_in_order, admission_refused}

regroup : (x v s f t : Bool) → x && (v && s && f && t) ≡ x && v && s && f && t
regroup x v s f t = simp and_assoc

pub formed_is : (a : Announcement) → (references_formed a.references && a.identified && is_some a.characteristics && dates_formed a) ≡ well_formed a
unfolding well_formed references_formed dates_formed
formed_is a = regroup (references_formed a.references && a.identified && is_some a.characteristics) (valid_date (characteristics_in a.characteristics).execution) (is_date a.spot) (is_date a.forward) (is_time a.cutoff)

-- the same of the characteristics that the code has found, or has not found
pub unformed : (a : Announcement) → a.characteristics ≡ None → false ≡ well_formed a
unformed a e =
    let p = references_formed a.references && a.identified in
    let none : false ≡ (p && is_some a.characteristics && dates_formed a) = rw (e, and-false p) in
    none ∙ formed_is a

pub formed_with : (a : Announcement) (c : Characteristics) (r d b : Bool) → a.characteristics ≡ Some c → r ≡ references_formed a.references → d ≡ dates_formed a → r && a.identified && d ≡ b → b ≡ well_formed a
formed_with a c r d b e f g h =
    let p = references_formed a.references && a.identified in
    let there : (r && a.identified && d) ≡ (p && is_some a.characteristics && dates_formed a) = rw (f, g, e, and-true p) in
    sym h ∙ there ∙ formed_is a

-- a message that is no announcement
pub no_announcement : (m : List ℕ) (adm : Admission) → None ≡ reading m → some 1 ≡ opening_refused m adm
unfolding reading opening_refused first_holding not_announcement
no_announcement m adm h = go (readable layout6_g0 m) refl
  where
    go : (x : Bool) → readable layout6_g0 m ≡ x → some 1 ≡ opening_refused m adm
    go true e = let q : None ≡ Some (announcement_of m) = h ∙ ap (λ (b : Bool). cond b (Some (announcement_of m)) None) e in cc
    go false e = rw e

-- what a reading says of a message that is an announcement, and the conditions from the second on
module _ (m : List ℕ) (a : Announcement) (h : Some a ≡ reading m) where
  pub announcement-readable : readable layout6_g0 m ≡ true
  unfolding reading
  announcement-readable = go (readable layout6_g0 m) refl
    where
      go : (x : Bool) → readable layout6_g0 m ≡ x → readable layout6_g0 m ≡ true
      go true e = e
      go false e = let q : Some a ≡ None = h ∙ ap (λ (b : Bool). cond b (Some (announcement_of m)) None) e in cc

  pub announcement_is : a ≡ announcement_of m
  unfolding reading
  announcement_is = let q : Some a ≡ Some (announcement_of m) = h ∙ ap (λ (b : Bool). cond b (Some (announcement_of m)) None) announcement-readable in cc

  no_1 : not_announcement m ≡ false
  unfolding not_announcement
  no_1 = rw announcement-readable

  condition_3 : malformed_announcement m ≡ not (well_formed a)
  unfolding malformed_announcement
  condition_3 = ap (λ (x : Announcement). not (well_formed x)) (sym announcement_is)

  condition_4 : unknown_type m ≡ is_unknown a.kind
  unfolding unknown_type
  condition_4 = ap (λ (x : Announcement). is_unknown x.kind) (sym announcement_is)

  condition_5 : (c : Characteristics) → a.characteristics ≡ Some c → impossible_numbers m ≡ impossible c
  unfolding impossible_numbers
  condition_5 c e = ap (λ (x : Announcement). impossible (characteristics_in x.characteristics)) (sym announcement_is) ∙ ap (λ (x : Option Characteristics). impossible (characteristics_in x)) e

  condition_6 : dates_disordered m ≡ not (dates_in_order a)
  unfolding dates_disordered dates_in_order
  condition_6 = ap (λ (x : Announcement). not (dates_in_order x)) (sym announcement_is)

  module _ (adm : Admission) where
    pub refused_2 : other_origin m ≡ true → some 2 ≡ opening_refused m adm
    unfolding opening_refused first_holding
    refused_2 h2 = rw (no_1, h2)

    module _ (no_2 : other_origin m ≡ false) where
      pub refused_3 : well_formed a ≡ false → some 3 ≡ opening_refused m adm
      unfolding opening_refused first_holding
      refused_3 h3 = let e : malformed_announcement m ≡ true = condition_3 ∙ ap not h3 in rw (no_1, no_2, e)

      module _ (formed : well_formed a ≡ true) where
        no_3 : malformed_announcement m ≡ false
        no_3 = condition_3 ∙ ap not formed

        pub refused_4 : a.kind ≡ None → some 4 ≡ opening_refused m adm
        unfolding opening_refused first_holding
        refused_4 h4 = let e : unknown_type m ≡ true = condition_4 ∙ ap is_unknown h4 in rw (no_1, no_2, no_3, e)

        module _ (kind : Kind) (c : Characteristics) (has_kind : a.kind ≡ Some kind) (has : a.characteristics ≡ Some c) where
          no_4 : unknown_type m ≡ false
          no_4 = condition_4 ∙ ap is_unknown has_kind

          pub refused_5 : impossible c ≡ true → some 5 ≡ opening_refused m adm
          unfolding opening_refused first_holding
          refused_5 h5 = let e : impossible_numbers m ≡ true = condition_5 c has ∙ h5 in rw (no_1, no_2, no_3, no_4, e)

          module _ (possible : impossible c ≡ false) where
            no_5 : impossible_numbers m ≡ false
            no_5 = condition_5 c has ∙ possible

            pub refused_6 : dates_in_order a ≡ false → some 6 ≡ opening_refused m adm
            unfolding opening_refused first_holding
            refused_6 h6 = let e : dates_disordered m ≡ true = condition_6 ∙ ap not h6 in rw (no_1, no_2, no_3, no_4, no_5, e)

            pub refused-admission : dates_in_order a ≡ true → admission_refused adm ≡ opening_refused m adm
            unfolding opening_refused first_holding admission_refused
            refused-admission h6 = let e : dates_disordered m ≡ false = condition_6 ∙ ap not h6 in rw (no_1, no_2, no_3, no_4, no_5, e)
