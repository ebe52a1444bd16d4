-- Which rules are FreeBSD 13's, as far as we know its sources (pf.c, if_pfsync.c), in place of this project's profile.
use Rattle.std.specs.Prelude.{ℕ, true, false, ◌||◌, List, [], ◌∷◌, find, bytes_eq, codes, Option}
use Rattle.pfl_base.specs.declared.kernel.Kernel.{Kernel}
use Rattle.pfl_base.specs.declared.kernel.KernelWord.{KernelWord}
use Rattle.pfl_base.specs.declared.kernel.KernelWord.TheVariants.{Window, Loose, Merge, Rule, Expiry, Reset, Scale, Clear, Revive, Icmp}

-- the word of a rule
abbrev pub kernel_text : KernelWord → List ℕ
kernel_text Window = codes "window"
kernel_text Loose = codes "loose"
kernel_text Merge = codes "merge"
kernel_text Rule = codes "rule"
kernel_text Expiry = codes "expiry"
kernel_text Reset = codes "reset"
kernel_text Scale = codes "scale"
kernel_text Clear = codes "clear"
kernel_text Revive = codes "revive"
kernel_text Icmp = codes "icmp"

-- the rule with the word, if there is one
abbrev pub kernel_at_word : List ℕ → Option KernelWord
kernel_at_word word = find (λ rule. bytes_eq (kernel_text rule) word) (Window ∷ Loose ∷ Merge ∷ Rule ∷ Expiry ∷ Reset ∷ Scale ∷ Clear ∷ Revive ∷ Icmp ∷ [])

-- no rule is the kernel's
abbrev pub profile : Kernel
profile = record {
  window = false;
  loose = false;
  merge = false;
  rule = false;
  expiry = false;
  reset = false;
  scale = false;
  clear = false;
  revive = false;
  icmp = false;
}

-- all of them are
abbrev pub every_rule : Kernel
every_rule = record {
  window = true;
  loose = true;
  merge = true;
  rule = true;
  expiry = true;
  reset = true;
  scale = true;
  clear = true;
  revive = true;
  icmp = true;
}

-- one rule more
abbrev pub with_kernel_rule : Kernel → KernelWord → Kernel
with_kernel_rule k Window = record k { window = true }
with_kernel_rule k Loose = record k { loose = true }
with_kernel_rule k Merge = record k { merge = true }
with_kernel_rule k Rule = record k { rule = true }
with_kernel_rule k Expiry = record k { expiry = true }
with_kernel_rule k Reset = record k { reset = true }
with_kernel_rule k Scale = record k { scale = true }
with_kernel_rule k Clear = record k { clear = true }
with_kernel_rule k Revive = record k { revive = true }
with_kernel_rule k Icmp = record k { icmp = true }

-- the rules of either
abbrev pub rules_of_either : Kernel → Kernel → Kernel
rules_of_either k l = record {
  window = k.window || l.window;
  loose = k.loose || l.loose;
  merge = k.merge || l.merge;
  rule = k.rule || l.rule;
  expiry = k.expiry || l.expiry;
  reset = k.reset || l.reset;
  scale = k.scale || l.scale;
  clear = k.clear || l.clear;
  revive = k.revive || l.revive;
  icmp = k.icmp || l.icmp;
}
