pub mod RootTrees
pub mod Relaying
pub mod Standing
