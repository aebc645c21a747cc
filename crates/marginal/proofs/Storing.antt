-- The key of the next bid is stored: the keys are those of the bids in among one bid more. Assumes nothing.
use mathlib.Core.Path.{◌≡◌, refl, sym, ◌∙◌, ap, subst}
use mathlib.Core.Bool.{Bool, true, false, cond}
use mathlib.Core.List.{List, [], ◌∷◌, ◌++◌}
use Prim.Native.Nat.{ℕ, ◌+◌, ◌/◌, ◌%◌, ◌≤◌, ◌<◌}
use native.Mathlib.Nat.{add-zero}
use native.Mathlib.Omega.{arith}
use native.Mathlib.Numerals.{add-one}
use lib.Dec.{ltb}
use lib.ListN.{length, get_or, set, take, length-append, get_or-append}
use lib.Seq.{take_all, take-suc, take-suc-set, take-set-le, get_or-append_seam}
use borrow.Author.Tests.{ltb-true, ltb-false, lt-ltb}
use Rattle.sort.specs.Sorting.{weight_of}
use Rattle.sort.proofs.Sorting.{weight-last}
use Rattle.rules.specs.Allotment.{Bid, no_bid, Offer, is_in, keep}
use Rattle.offer.specs.Viewed.{ranks}
use Rattle.marginal.specs.Ranks.{key_bid, is_key, weight, Ranked}
use Rattle.marginal.proofs.Sums.{weight_more}

-- the keys are those of the bids in among some of the bids
pub record Among (o : Offer) (bs among : List Bid) (keys : List ℕ) : Type 0 where
  pub are_keys : (j : ℕ) → j < length keys → is_key o bs (get_or keys j 0) ≡ true
  pub weigh : (w : Bid → ℕ) → weight_of (λ k. w (key_bid bs k)) keys ≡ weight w (keep (is_in o) among)

pub no_keys : (o : Offer) (bs : List Bid) → Among o bs [] []
unfolding weight_of weight keep
no_keys o bs = record { are_keys = λ j h. absurd (omega arith); weigh = λ w. refl }

module _ (o : Offer) (bs among : List Bid) (keys : List ℕ) (r : Among o bs among keys) (b : Bid) where
  -- one bid more that is out
  one_out : is_in o b ≡ false → Among o bs (among ++ (b ∷ [])) keys
  one_out e =
      record {
        are_keys = r.are_keys;
        weigh = λ w. r.weigh w ∙ omega (arith, weight_more w (is_in o) among b, ap {B = ℕ} (λ (t : Bool). cond t (w b) 0) e);
      }

  -- one bid more that is in, with its key
  one_in : (k : ℕ) → key_bid bs k ≡ b → is_key o bs k ≡ true → is_in o b ≡ true → Among o bs (among ++ (b ∷ [])) (keys ++ (k ∷ []))
  one_in k i is_key_lem e =
      record {
        are_keys = λ j l. go j l (ltb j (length keys)) refl;
        weigh = λ w. omega (
          arith,
          weight-last (λ x. w (key_bid bs x)) keys k,
          ap w i,
          r.weigh w,
          weight_more w (is_in o) among b,
          ap {B = ℕ} (λ (t : Bool). cond t (w b) 0) e,
        );
      }
    where
      go : (j : ℕ) → j < length (keys ++ (k ∷ [])) → (t : Bool) → ltb j (length keys) ≡ t → is_key o bs (get_or (keys ++ (k ∷ [])) j 0) ≡ true
      go j l true f = ap (is_key o bs) (get_or-append keys (k ∷ []) 0 j (ltb-true j (length keys) f)) ∙ r.are_keys j (ltb-true j (length keys) f)
      go j l false f =
          let q : j ≡ length keys = omega (arith, ltb-false j (length keys) f, length-append keys (k ∷ [])) in
          ap (λ (x : ℕ). is_key o bs (get_or (keys ++ (k ∷ [])) x 0)) q ∙ ap (is_key o bs) (get_or-append_seam keys k [] 0) ∙ is_key_lem

-- the key of the bid at i is stored, and kept where the bid is in
module _ (o : Offer) (bs : List Bid) (i n k : ℕ) (keys : List ℕ) (r : Among o bs (take i bs) (take n keys)) (h : i < length bs) (long : n < length keys)
    (index : k % 1024 ≡ i) (rank : ranks o.side (get_or bs i no_bid).rate (k / 1024) ≡ true) where
  abbrev b : Bid
  b = get_or bs i no_bid

  bid_of_lem : key_bid bs k ≡ b
  bid_of_lem = ap (λ (x : ℕ). get_or bs x no_bid) index

  is_key_lem : is_in o b ≡ true → is_key o bs k ≡ true
  unfolding is_key
  is_key_lem e = rw (ap (is_in o) bid_of_lem ∙ e, lt-ltb (k % 1024) (length bs) (omega arith), ap (λ (x : Bid). ranks o.side x.rate (k / 1024)) bid_of_lem ∙ rank)

  one_more : take (i + 1) bs ≡ take i bs ++ (b ∷ [])
  one_more = ap (λ (m : ℕ). take m bs) (add-one i) ∙ take-suc bs i no_bid h

  pub ranked_more : (c : ℕ) → c ≡ cond (is_in o b) 1 0 → Among o bs (take (i + 1) bs) (take (n + c) (set keys n k))
  ranked_more c e =
      subst (λ (m : ℕ). Among o bs (take (i + 1) bs) (take (n + m) (set keys n k))) (sym e)
      (subst (λ (l : List Bid). Among o bs l (take (n + cond (is_in o b) 1 0) (set keys n k))) (sym one_more) (go (is_in o b) refl))
    where
      go : (t : Bool) → is_in o b ≡ t → Among o bs (take i bs ++ (b ∷ [])) (take (n + cond t 1 0) (set keys n k))
      go true f =
          subst (Among o bs (take i bs ++ (b ∷ []))) (sym (ap (λ (m : ℕ). take m (set keys n k)) (add-one n) ∙ take-suc-set keys n k long))
          (one_in o bs (take i bs) (take n keys) r b k bid_of_lem (is_key_lem f) f)
      go false f =
          subst (Among o bs (take i bs ++ (b ∷ []))) (sym (ap (λ (m : ℕ). take m (set keys n k)) (add-zero n) ∙ take-set-le n keys n k (omega arith)))
          (one_out o bs (take i bs) (take n keys) r b f)

-- the keys of the bids in among the first n, where those are all
pub ranked-all : (o : Offer) (bs : List Bid) (n : ℕ) (keys : List ℕ) → length bs ≤ n → Among o bs (take n bs) keys → Ranked o bs keys
ranked-all o bs n keys h r =
    record { are_keys = r.are_keys; weigh = λ w. r.weigh w ∙ ap (λ (l : List Bid). weight w (keep (is_in o) l)) (take_all n bs h) }
