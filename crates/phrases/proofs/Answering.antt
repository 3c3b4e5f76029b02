-- From the answers of the parts to the answer of the whole: what every way through a reader's code has in common.
use mathlib.Core.List.{List}
use mathlib.Core.Path.{◌≡◌, refl, sym, subst, ◌∙◌}
use Rattle.std.specs.Prelude.{Ok, Err}
use Prim.Native.Nat.{ℕ, ◌+◌, ◌≤◌, ◌<◌}
use native.Mathlib.Omega.{arith}
use Rattle.language.specs.Tokens.{Token}
use Rattle.language.specs.Trees.{Exp}
use Rattle.language.proofs.Executable.Parses.{Result, failed, got}
use Rattle.layout.specs.Table.{put_row, without_rows}
use Rattle.layout.specs.Names.{Stand}
use Rattle.layout.specs.Rows.{below, lay}
use Rattle.phrases.specs.Parts.{Told, On, Answer, Yields, Written, Topped}
use Rattle.phrases.specs.declared.parts.Failed.{Failed}
use Rattle.phrases.specs.declared.parts.Tree.{Tree}
use Rattle.phrases.specs.Words.{Part, tree_at, none_at}
use Rattle.phrases.proofs.Standing.{stand_lay}

-- an answer that is known
pub known : {T : Told Exp} {count n f lo hi : ℕ} {w w' : List ℕ} {g h : Part} → Answer T count w n f lo hi g w' → g ≡ h
    → Answer T count w n f lo hi h w'
known {T} {count} {n} {f} {lo} {hi} {w} {w'} a e = subst (λ (x : Part). Answer T count w n f lo hi x w') e a

-- the same of a word that stands for it
pub back : {T : Told Exp} {count n f lo hi : ℕ} {w w' : List ℕ} {g h : Part} → Answer T count w n f lo hi h w' → g ≡ h
    → Answer T count w n f lo hi g w'
back a e = known a (sym e)

-- a failure, handed on as the word that tells it
pub handed : {T U : Told Exp} {count n f lo hi n₁ f₁ l₁ h₁ : ℕ} {w v w' : List ℕ} {g : Part} {e : Failed}
    → Answer U count v n₁ f₁ l₁ h₁ g w' → g ≡ Err e
    → (Answer U count v n₁ f₁ l₁ h₁ (none_at e.at) w' → Answer T count w n f lo hi (none_at e.at) w') → Answer T count w n f lo hi g w'
handed a e h = back (h (known a e)) e

-- where the last part was a tree, a row was written behind it
pub written : (put : List ℕ → ℕ → ℕ → List ℕ) (behind : ℕ → ℕ) {g h : Part} {w w' : List ℕ} {t : Tree} → g ≡ Ok t
    → Topped put behind g w h w' → Written t.free (behind t.next) (put w t.free t.root) w h w'
written put behind {h = h} {w = w} {w' = w'} e x = subst (λ (z : Part). Topped put behind z w h w') e x

-- where a tree was read the table stands for the same tokens
pub after : {T : Told Exp} {count n f lo hi r m k : ℕ} {w w₁ : List ℕ} → Answer T count w n f lo hi (tree_at r m k) w₁
    → (ts : List Token) → Stand w count ts → Stand w₁ count ts
after {f = f} a ts s = let x = a.told ts s in stand_lay x.tree f x.laid s

module _ {count n f lo hi : ℕ} {w w₁ : List ℕ} where
  -- ---- nothing is read

  -- a token is wrong
  pub fails : {T : Told Exp} {e : ℕ} → ((ts : List Token) → Stand w count ts → T ts (failed e)) → without_rows w₁ ≡ without_rows w
      → Answer T count w n f lo hi (none_at e) w₁
  fails h c = record { told = h; ahead = tt; clear = c }

  -- the first part failed
  pub fails_first : {T U : Told Exp} {n₁ l₁ h₁ e : ℕ} → Answer U count w n₁ f l₁ h₁ (none_at e) w₁
      → ((ts : List Token) → Stand w count ts → U ts (failed e) → T ts (failed e)) → Answer T count w n f lo hi (none_at e) w₁
  fails_first a h = record { told = λ ts s. h ts s (a.told ts s); ahead = tt; clear = a.clear }

  -- the token behind the first part is wrong
  pub fails_behind : {T U : Told Exp} {n₁ l₁ h₁ r m k : ℕ} → Answer U count w n₁ f l₁ h₁ (tree_at r m k) w₁
      → ((ts : List Token) → Stand w count ts → Stand w₁ count ts → (x : Exp) → U ts (got x m) → T ts (failed m))
      → Answer T count w n f lo hi (none_at m) w₁
  fails_behind a h = record {
    told = λ ts s. h ts s (after a ts s) (a.told ts s).tree (a.told ts s).told;
    ahead = tt;
    clear = a.clear;
  }

  -- the second part failed
  pub fails_second : {T U W : Told Exp} {n₁ l₁ h₁ n₂ l₂ h₂ r m k e : ℕ} {w₂ : List ℕ}
      → Answer U count w n₁ f l₁ h₁ (tree_at r m k) w₁ → Answer W count w₁ n₂ k l₂ h₂ (none_at e) w₂
      → ((ts : List Token) → Stand w count ts → (x : Exp) → U ts (got x m) → W ts (failed e) → T ts (failed e))
      → Answer T count w n f lo hi (none_at e) w₂
  fails_second a b h = record {
    told = λ ts s. h ts s (a.told ts s).tree (a.told ts s).told (b.told ts (after a ts s));
    ahead = tt;
    clear = b.clear ∙ a.clear;
  }

  -- ---- what was read is the whole

  -- a tree, by the token behind it
  pub keeps : {T U : Told Exp} {l₁ h₁ r m k : ℕ} → Answer U count w n f l₁ h₁ (tree_at r m k) w₁ → On n f lo hi r m k
      → ((ts : List Token) → Stand w count ts → Stand w₁ count ts → (x : Exp) → U ts (got x m) → T ts (got x m))
      → Answer T count w n f lo hi (tree_at r m k) w₁
  keeps a o h = record {
    told = λ ts s.
        let x = a.told ts s in
        record { tree = x.tree; told = h ts s (after a ts s) x.tree x.told; top = x.top; laid = x.laid };
    ahead = o;
    clear = a.clear;
  }

  -- any answer, by the token before it
  pub same : {T U : Told Exp} (g : Part) → Answer U count w n f lo hi g w₁
      → ((ts : List Token) → Stand w count ts → (r : Result Exp) → U ts r → T ts r) → Answer T count w n f lo hi g w₁
  same (Ok t) a h = record {
    told = λ ts s. let x = a.told ts s in record { tree = x.tree; told = h ts s _ x.told; top = x.top; laid = x.laid };
    ahead = a.ahead;
    clear = a.clear;
  }
  same (Err e) a h = record { told = λ ts s. h ts s _ (a.told ts s); ahead = tt; clear = a.clear }

-- ---- a node

-- a node that is one row
pub single : {T : Told Exp} {count n f m : ℕ} {w w₁ : List ℕ} {g : Part} (kind own : ℕ) (build : List Token → Exp)
    → ((ts : List Token) → Stand w count ts → (below (build ts) ≡ 0) × (lay w f (build ts) ≡ put_row w f kind own 0 0 0) × T ts (got (build ts) m))
    → Written f m (put_row w f kind own 0 0 0) w g w₁ → n < m → m ≤ count → Yields T count w n f g w₁
single kind own build h x o i = rw x.answer (record {
  told = λ ts s. let y = h ts s in record { tree = build ts; told = y.2; top = omega arith; laid = x.laid ∙ sym y.1 };
  ahead = record { least = omega arith; most = omega arith; owned = omega arith; end = refl };
  clear = x.clear;
})

-- A node whose last part is laid from row k of the table v on: what it is, how its row is put, and what is told of it.
pub record Grows (T U : Result Exp → Type 0) (put : List ℕ → ℕ → ℕ → List ℕ) (behind : ℕ
    → ℕ) (w : List ℕ) (f : ℕ) (v : List ℕ) (k : ℕ) : Type 0 where
  pub build : Exp → Exp
  pub rows : (x : Exp) → f + below (build x) ≡ k + below x + 1
  pub laid : (x : Exp) → lay w f (build x) ≡ put (lay v k x) (k + below x + 1) (k + below x)
  pub told : (x : Exp) (m : ℕ) → U (got x m) → T (got (build x) (behind m))
  pub lost : (e : ℕ) → U (failed e) → T (failed e)

module _ {T U : Told Exp} {count n f lo hi n₂ k l₂ h₂ : ℕ} {w v w₂ w₃ : List ℕ} {h : Part} (put : List ℕ → ℕ → ℕ → List ℕ) (behind : ℕ
    → ℕ) where
  -- the last part, and the row that is written behind it; nothing where it failed
  pub tops : (g : Part) → ((ts : List Token) → Stand w count ts → Stand v count ts × Grows (T ts) (U ts) put behind w f v k)
      → without_rows v ≡ without_rows w → Answer U count v n₂ k l₂ h₂ g w₂ → Topped put behind g w₂ h w₃
      → ((r m k₂ : ℕ) → On n₂ k l₂ h₂ r m k₂ → On n f lo hi k₂ (behind m) (k₂ + 1)) → Answer T count w n f lo hi h w₃
  tops (Ok g) q c a x o = rw x.answer (record {
    told = λ ts s.
        let y = (q ts s).1 in
        let z = a.told ts (q ts s).0 in
        let b = a.ahead in
        let e₁ : g.root ≡ k + below z.tree = z.top in
        let e₂ : g.free ≡ k + below z.tree + 1 = omega arith in
        let u₁ : w₂ ≡ lay v k z.tree = z.laid in
        let u₂ = x.laid in
        let u₃ = y.laid z.tree in
        record { tree = y.build z.tree; told = y.told z.tree g.next z.told; top = omega (arith, y.rows z.tree); laid = cc };
    ahead = o g.root g.next g.free a.ahead;
    clear = x.clear ∙ a.clear ∙ c;
  })
  tops (Err e) q c a x o = rw (x.0, x.1) (record {
    told = λ ts s. (q ts s).1.lost e.at (a.told ts (q ts s).0);
    ahead = tt;
    clear = a.clear ∙ c;
  })

-- a node over one part
pub over_one : {T U : Told Exp} {count n f lo hi n₂ l₂ h₂ : ℕ} {w w₂ w₃ : List ℕ} {g h : Part} (kind own : ℕ) (behind : ℕ
    → ℕ) (build : Exp → Exp)
    → ((x : Exp) → (below (build x) ≡ below x + 1) × (lay w f (build x) ≡ put_row (lay w f x) (f + below x + 1) kind own (f + below x) 0 0))
    → ((ts : List Token) → Stand w count ts → ((x : Exp) (m : ℕ) → U ts (got x m) → T ts (got (build x) (behind m))) × ((e : ℕ)
    → U ts (failed e) → T ts (failed e)))
    → Answer U count w n₂ f l₂ h₂ g w₂ → Topped (λ z k r. put_row z k kind own r 0 0) behind g w₂ h w₃
    → ((r m k₂ : ℕ) → On n₂ f l₂ h₂ r m k₂ → On n f lo hi k₂ (behind m) (k₂ + 1)) → Answer T count w n f lo hi h w₃
over_one {f = f} {g = g} kind own behind build q t a x o =
    tops _ behind g
    (λ ts s. (s, record { build = build; rows = λ y. omega (arith, (q y).0); laid = λ y. (q y).1; told = (t ts s).0; lost = (t ts s).1 }))
    refl a x o

-- a node over two parts
pub over_two : {T U W : Told Exp} {count n f lo hi n₁ l₁ h₁ n₂ l₂ h₂ r m k : ℕ} {w w₁ w₂ w₃ : List ℕ} {g h : Part} (kind own : ℕ)
    (build : List Token → Exp → Exp → Exp)
    → ((ts : List Token) → Stand w₁ count ts → (x y : Exp) → (below (build ts x y) ≡ below x + 1 + below y + 1)
    × (lay w f (build ts x y) ≡ put_row (lay (lay w f x) (f + below x + 1) y) (f + below x + 1 + below y + 1) kind own (f + below x)
    (f + below x + 1 + below y) 0))
    → ((ts : List Token) → Stand w count ts → Stand w₁ count ts → (x : Exp) → U ts (got x m)
    → ((y : Exp) (l : ℕ) → W ts (got y l) → T ts (got (build ts x y) l)) × ((e : ℕ) → W ts (failed e) → T ts (failed e)))
    → Answer U count w n₁ f l₁ h₁ (tree_at r m k) w₁ → Answer W count w₁ n₂ k l₂ h₂ g w₂
    → Topped (λ z k r₂. put_row z k kind own r r₂ 0) (λ l. l) g w₂ h w₃
    → ((r₂ l k₂ : ℕ) → On n₂ k l₂ h₂ r₂ l k₂ → On n f lo hi k₂ l (k₂ + 1)) → Answer T count w n f lo hi h w₃
over_two {count = count} {f = f} {r = r} {m = m} {k = k} {w = w} {w₁ = w₁} {g = g} kind own build q t a b x o =
    tops _ (λ l. l) g
    (λ ts s.
    let v = after a ts s in
    let y = a.told ts s in
    let z = t ts s v y.tree y.told in
    let d = a.ahead in
    let e₁ : r ≡ f + below y.tree = y.top in
    let e₂ : k ≡ f + below y.tree + 1 = omega arith in
    let u : w₁ ≡ lay w f y.tree = y.laid in (
      v,
      record {
        build = build ts y.tree;
        rows = λ e. omega (arith, (q ts v y.tree e).0);
        laid = λ e. let p = (q ts v y.tree e).1 in cc;
        told = z.0;
        lost = z.1;
      },
    ))
    a.clear b x o
