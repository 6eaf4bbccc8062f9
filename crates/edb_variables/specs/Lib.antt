pub mod PairStacks
