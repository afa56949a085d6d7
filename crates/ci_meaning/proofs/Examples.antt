mod Projects
mod Tasks
