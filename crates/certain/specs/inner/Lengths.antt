-- How long the lists of a day and of a report have to be. Definitions only.
use Rattle.std.specs.Prelude.{ℕ, ◌*◌, ◌≤◌, List, length, Float}

pub record Pulls (n m p : ℕ) (balances limits y z : List Float) : Type 0 where
  pub balances_long : m * n ≤ length balances
  pub limits_long : p * n ≤ length limits
  pub y_long : m ≤ length y
  pub z_long : p ≤ length z

pub record Volumes (n : ℕ) (values spreads x : List Float) : Type 0 where
  pub values_long : n ≤ length values
  pub spreads_long : n ≤ length spreads
  pub x_long : n ≤ length x
