-- The ways through `named` and `arguments`.
use mathlib.Core.List.{List}
use mathlib.Core.Path.{◌≡◌, refl, ap, subst, ◌∙◌}
use Rattle.std.specs.Prelude.{Ok, Err}
use Prim.Native.Nat.{ℕ, ◌+◌, ◌<◌}
use native.Mathlib.Omega.{arith}
use Rattle.language.specs.Tokens.{NAME, COMMA, LPAR, RPAR, spelling_at}
use Rattle.language.specs.Trees.{name, call, last}
use Rattle.language.specs.Grammar.{atom}
use Rattle.language.proofs.Executable.Parses.{got}
use Rattle.language.proofs.Executable.Parser.{read}
use Rattle.language.proofs.Executable.Settles.{Settles}
use Rattle.language.proofs.Executable.SettlesExpressions as S
use Rattle.layout.specs.Table.{kind_of, put_row}
use Rattle.layout.specs.Rows.{CALL, ARGUMENT, below, under, head, lay, lay_all}
use Rattle.phrases.specs.Parts.{Yields, YieldsAll, Written, Topped, Seq, Atom, Closed}
use Rattle.phrases.specs.Words.{Part, tree_at, none_at}
use Rattle.phrases.proofs.Standing.{at, not_at}
use Rattle.phrases.proofs.Answering.{after, single}
use Rattle.phrases.proofs.Listing.{lists_last, lists_more}

-- ---- a name, and a call

module _ {count n f : ℕ} {w w₁ : List ℕ} (h : kind_of w count n ≡ NAME) where
  -- no `(` behind the name
  pub just_name : {g : Part} → (kind_of w count (n + 1) ≡ LPAR → ⊥) → n < count → Written f (n + 1) (put_row w f NAME n 0 0 0) w g w₁
      → Yields (Atom n) count w n f g w₁
  unfolding lay below
  just_name i l x =
      single NAME n (λ ts. name n (spelling_at ts n)) (λ ts s. (refl, refl, S.atom_name (at n s h) (not_at (n + 1) s i))) x (omega arith) (omega arith)

  module _ (i : kind_of w count (n + 1) ≡ LPAR) where
    -- `(` and `)`
    pub call_none : {g : Part} → kind_of w count (n + 2) ≡ RPAR → n + 2 < count → Written f (n + 3) (put_row w f CALL n 0 0 0) w g w₁
        → Yields (Atom n) count w n f g w₁
    unfolding lay below head
    call_none {g} j l x =
        single CALL n (λ ts. call n (spelling_at ts n) last)
        (λ ts s.
        let e : n + 2 + 1 ≡ n + 3 = omega arith in (
          refl,
          ap (λ (z : ℕ). put_row w z CALL n 0 0 0) (omega arith),
          subst (λ (z : ℕ). Settles ts (read atom) n (got (call n (spelling_at ts n) last) z)) e
              (S.atom_call (at n s h) (at (n + 1) s i) (S.actuals_none (at (n + 2) s j))),
        ))
        x (omega arith) (omega arith)

    -- `(`, and Args with `)` or none
    pub call_some : {w₂ : List ℕ} {z : Part} (g : Part) → (kind_of w count (n + 2) ≡ RPAR → ⊥)
        → YieldsAll (Closed (n + 2)) n count w (n + 2) f g w₁
        → Topped (λ u x y. put_row u x CALL n y 0 0) (λ l. l) g w₁ z w₂ → Yields (Atom n) count w n f z w₂
    unfolding lay below
    call_some (Ok g) j a x = rw x.answer (record {
      told = λ ts s.
          let y = a.told ts s in
          let e₁ : g.root ≡ head f y.args = y.top in
          let e₂ : g.free ≡ f + under y.args = y.past in
          let l₁ : w₁ ≡ lay_all w f n y.args = y.laid in
          let l₂ = x.laid in
          record {
            tree = call n (spelling_at ts n) y.args;
            told = S.atom_call (at n s h) (at (n + 1) s i) (S.actuals_some (not_at (n + 2) s j) y.told);
            top = e₂;
            laid = cc;
          };
      ahead = let o = a.ahead in record { least = omega arith; most = o.most; owned = omega arith; end = refl };
      clear = x.clear ∙ a.clear;
    })
    call_some (Err e) j a x = rw (x.0, x.1) (record {
      told = λ ts s. S.atom_call (at n s h) (at (n + 1) s i) (S.actuals_some (not_at (n + 2) s j) (a.told ts s));
      ahead = tt;
      clear = a.clear;
    })

-- ---- the arguments of the call at token i

module _ {count n f i : ℕ} {w w₁ : List ℕ} where
  -- no first argument
  pub args_none : {e : ℕ} → Yields (Seq n) count w n f (none_at e) w₁ → YieldsAll (Closed n) i count w n f (none_at e) w₁
  args_none a = record { told = λ ts s. S.closed_failed (a.told ts s); ahead = tt; clear = a.clear }

  module _ {r m k : ℕ} (a : Yields (Seq n) count w n f (tree_at r m k) w₁) where
    -- an argument, and neither `)` nor `,`
    pub args_other : (kind_of w₁ count m ≡ RPAR → ⊥) → (kind_of w₁ count m ≡ COMMA → ⊥) → YieldsAll (Closed n) i count w n f (none_at m) w₁
    args_other h j = record {
      told = λ ts s. let v = after a ts s in S.closed_other (a.told ts s).told (not_at m v j) (not_at m v h);
      ahead = tt;
      clear = a.clear;
    }

    -- the last argument
    pub args_last : {w₂ : List ℕ} {g : Part} → kind_of w₁ count m ≡ RPAR → m < count → Written k (m + 1) (put_row w₁ k ARGUMENT i r 0 0) w₁ g w₂
        → YieldsAll (Closed n) i count w n f g w₂
    args_last h j x =
        let o = a.ahead in
        lists_last a (λ ts v y p. S.closed_one p (at m v h)) x record { least = omega arith; most = omega arith; owned = omega arith; end = refl }

    -- an argument, `,`, and others with `)` or none
    pub args_more : {w₂ w₃ : List ℕ} {z : Part} (g : Part) → kind_of w₁ count m ≡ COMMA → YieldsAll (Closed (m + 1)) i count w₁ (m + 1) k g w₂
        → Topped (λ u x y. put_row u x ARGUMENT i r y 0) (λ l. l) g w₂ z w₃ → YieldsAll (Closed n) i count w n f z w₃
    args_more g h b x =
        let d = a.ahead in
        lists_more a g (λ ts v y p. (λ es l q. S.closed_more p (at m v h) q, λ e q. S.closed_more p (at m v h) q)) b x
        (λ q l j o. record { least = omega arith; most = o.most; owned = omega arith; end = refl })
