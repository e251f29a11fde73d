-- What nodes of the table stand for, with just enough steps to decode them; and nodes that only lead a list of elements.
use Rattle.std.specs.Prelude.{◌≡◌, ℕ, ◌+◌, ◌-◌, ◌*◌, ◌≤◌, List, Some}
use Rattle.tree.specs.Elements.{Tree, Arms}
use Rattle.nodes.specs.declared.table.Next.{Next}
use Rattle.nodes.specs.declared.table.Arm.{Arm}
use Rattle.nodes.specs.declared.table.Node.{Node}
use Rattle.nodes.specs.Exprs.{Pool}
use Rattle.nodes.specs.Trees.{arm_of, elements_of, arms_of}
use Rattle.nodes.specs.Wider.{Wider, Agree}

module _ (b : Pool) (ns : List Node) where
  -- the nodes from i up to e are the elements of this tree
  abbrev pub Body : ℕ → ℕ → ℕ → Tree → Type 0
  Body room i e t = elements_of b ns (2 * (e - i)) room i e ≡ Some t

  -- what stands from i up to e behind an arm
  abbrev pub ArmsIn : Next → ℕ → ℕ → ℕ → Arms → Type 0
  ArmsIn n room i e r = arms_of b ns (2 * (e - i) + 1) n room i e ≡ Some r

  -- the arm a, whose node is at i, and those behind it, in a block that ends at e
  abbrev pub ArmIn : ℕ → ℕ → ℕ → Arm → Arms → Type 0
  ArmIn room i e a r =
      arm_of b ns (λ q x z. elements_of b ns (2 * (e - i) - 1) q x z) (λ n q x z. arms_of b ns (2 * (e - i) - 1) n q x z) room i e a ≡ Some r

  -- the nodes from i up to j are the elements that f puts before those that follow, whatever is added behind
  abbrev pub Leads : ℕ → ℕ → ℕ → (Tree → Tree) → Type 0
  Leads room i j f =
      (c : Pool) (ms : List Node) → Wider b c → Agree ns ms i j → (e : ℕ) (t : Tree) → j ≤ e →
      elements_of c ms (2 * (e - j)) room j e ≡ Some t → elements_of c ms (2 * (e - i)) room i e ≡ Some (f t)
